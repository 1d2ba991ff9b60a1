-- Single steps of clients, as events.
use Rattle.std.proofs.Common.{◌≡◌, ℕ, ◌+◌, ◌<◌, true, false, Option, Some, None, List, [], ◌∷◌, ◌++◌, refl, sym, ◌∙◌, ap, subst, arith}
use Rattle.std.specs.Prelude.{slice_get}
use Rattle.std.specs.List.{All, list_all}
use Rattle.ec_store.specs.Put.{put}
use Rattle.ec_clients.specs.Beginning.{AreAsMany}
use Rattle.ec_clients.specs.Come.{Come, come}
use Rattle.ec_clients.specs.Calls.{IsRunning}
use Rattle.ec_clients.specs.Frames.{AreWithin}
use Rattle.ec_clients.specs.Going.{answer_entries, sent_entries}
use Rattle.ec_clients.specs.Hearing.{Begins, Hears, IsAwaited, Leaves}
use Rattle.ec_clients.specs.Ledger.{ledger}
use Rattle.ec_clients.specs.Owned.{IsOwned, Sees}
use Rattle.ec_clients.specs.Steps.{Breaks as ClientsBreak, Goes, Seen}
use Rattle.ec_clients.specs.Views.{joined, running_at, slots_of}
use Rattle.ec_clients.specs.declared.clients.Clients.{Clients}
use Rattle.ec_clients.specs.declared.clients.Running.{Running}
use Rattle.ec_clients.proofs.Booking.{sees_come, sends_within}
use Rattle.ec_clients.proofs.Following.{sent_follow}
use Rattle.ec_clients.proofs.Owning.{AllFit, heard_asker, sent_fit}
use Rattle.ec_clients.proofs.Places.{put_here, some_is}
use Rattle.ec_cluster.specs.Matches.{Matches}
use Rattle.ec_cluster.specs.Steps.{IsBegun}
use Rattle.ec_cluster.specs.Views.{next_of, size_of}
use Rattle.ec_cluster.specs.declared.cluster.Cluster.{Cluster}
use Rattle.ec_conduct.specs.Given.{Given}
use Rattle.ec_conduct.specs.Own.{Own}
use Rattle.ec_conduct.specs.Table.{Send}
use Rattle.ec_history.specs.IsRun.{IsCalling}
use Rattle.ec_history.specs.Run.{Asker, Net, after}
use Rattle.ec_history.specs.Script.{IsIdle, is_of_course}
use Rattle.ec_store.specs.Records.{Records}
use Rattle.ec_txn.specs.declared.ctx.Ctx.{Ctx}
use Rattle.ec_wire.specs.declared.answer.Answer.{Answer}
use Rattle.ec_wire.specs.declared.entry.Entry.{Entry}
use Rattle.ec_wire.specs.declared.entry.Entry.TheVariants.{Called, Died, GivenUp, Heard}
use Rattle.ec_wire.specs.declared.op.Op.{Op}
use Rattle.ec_world.specs.Events.{Advances, Breaks}
use Rattle.ec_world.specs.Steps.{NoneOr, OneStep}
use Rattle.ec_world.proofs.Advancing.{begun_breaks, one_step}

pub unjoined : {X : Type 0} (x : Option (Option X)) (r : X) → joined x ≡ Some r → x ≡ Some (Some r)
unjoined None r e = absurd (cc)
unjoined (Some x) r e = ap Some e

module _ {C : Type 0} (stands : Ctx → Given → C → List Own → Type 0) (by_table : Ctx → Given → List Own → Type 0) where
  -- what a client's slot says of what has come
  pub running_is : (s : Cluster) (c : Clients C) (p : Come) (j : ℕ) (r : Running C) → Sees stands by_table s c p → running_at c j ≡ Some r → IsRunning stands c.options (ledger p) j r
  running_is s c p j r h e = (h.seen.clients.slots.runs j r (unjoined (slice_get (slots_of c) j) r e)).0

  pub runs_owned : (s : Cluster) (c : Clients C) (p : Come) (j : ℕ) (r : Running C) → Sees stands by_table s c p → running_at c j ≡ Some r → IsOwned p.net.asker r.number j
  runs_owned s c p j r h e = let is = running_is s c p j r h e in record { asker = is.asker; made = is.made; of_client = is.of_client }

  pub idle_is : (s : Cluster) (c : Clients C) (p : Come) (j : ℕ) → Sees stands by_table s c p → running_at c j ≡ None → IsIdle p.net j
  idle_is s c p j h none a k =
      let slot = h.seen.clients.slots.unanswered a k.asker k.made k.unanswered (λ f. absurd (cc)) in
      let here : running_at c j ≡ Some slot.0 = ap (λ (x : ℕ). running_at c x) (sym k.of_client) ∙ ap joined slot.1 in
      absurd (let bad : None ≡ Some slot.0 = sym none ∙ here in cc)

  pub goes_advances : (Told : Type 0) (Is : Net → Entry → Type 0) (s t : Cluster) (c d : Clients C) (records : List Records) (e : Entry) (es : List Entry) → Goes c.options.geometry (Seen stands by_table s c None) (Seen stands by_table t d None) s t (e ∷ es) → d.options ≡ c.options → AreAsMany c d → list_all is_of_course es ≡ true → ((p : Come) → Sees stands by_table s c p → AllFit p.net (e ∷ es)) → AreWithin (size_of s) (e ∷ es) → ((p : Come) → Sees stands by_table s c p → Is p.net e) → Advances stands by_table Told (OneStep Is) s t c d records records
  goes_advances Told Is s t c d records e es g options many follow fit within is =
      one_step stands by_table Told Is s t c d records records e es follow g.log g.size options many g.sound
      (λ p h. sees_come stands by_table s t c d c.options.geometry (e ∷ es) p g.size (fit p h) within (g.leads p h.seen) h)
      (λ told p h m. let r = g.runs records p h.seen m in (r.0, r.1, is p h))

  pub sees_advances : (Told : Type 0) (Is : Net → Entry → Type 0) (s t : Cluster) (c : Clients C) (records : List Records) (e : Entry) (es : List Entry) → Goes c.options.geometry (Sees stands by_table s c) (Sees stands by_table t c) s t (e ∷ es) → list_all is_of_course es ≡ true → ((m : Net) → Is m e) → Advances stands by_table Told (OneStep Is) s t c c records records
  sees_advances Told Is s t c records e es g follow is =
      one_step stands by_table Told Is s t c c records records e es follow g.log g.size refl (record { slots = refl; lives = refl }) g.sound g.leads
      (λ told p h m. let r = g.runs records p h m in (r.0, r.1, is p.net))

  -- what a call sends goes to bricks of the cluster
  to_within : (s : Cluster) (c : Clients C) → size_of s ≡ c.options.geometry.n → (a j : ℕ) (sends : List Send) (answer : Option Answer) → All (λ (x : Send). x.0 < c.options.geometry.n) sends → AreWithin (size_of s) (sent_entries a j (next_of s) sends ++ answer_entries a answer)
  to_within s c size a j sends answer to = sends_within (size_of s) a j (next_of s) sends answer (subst (λ (n : ℕ). All (λ (x : Send). x.0 < n) sends) (sym size) to)

  pub hears_advances : (Told : Type 0) (Is : Net → Entry → Type 0) (s t : Cluster) (c d : Clients C) (records : List Records) (i a j b re : ℕ) → size_of s ≡ c.options.geometry.n → IsAwaited stands c a j b re → (x : Hears stands by_table s t c d i a j) → d.options ≡ c.options → AreAsMany c d → ((m : Net) → Is m (Heard i)) → Advances stands by_table Told (OneStep Is) s t c d records records
  hears_advances Told Is s t c d records i a j b re size aw x options many is =
      goes_advances Told Is s t c d records (Heard i) (sent_entries a j (next_of s) x.sends ++ answer_entries a x.answer) x.goes options many (sent_follow a j (next_of s) x.sends x.answer)
      (λ p h. (tt, sent_fit a j (next_of s) x.sends x.answer (after p.net (Heard i)) (subst (λ (f : ℕ → Option Asker). IsOwned f a j) (sym (heard_asker p.net (p.net.said i))) (subst (λ (n : ℕ). IsOwned p.net.asker n j) aw.number (runs_owned s c p j aw.running h aw.runs)))))
      (tt, to_within s c size a j x.sends x.answer x.to)
      (λ p h. is p.net)

  pub leaves_advances : (Told : Type 0) (Is : Net → Entry → Type 0) (s t : Cluster) (c d : Clients C) (records : List Records) (i j b : ℕ) → size_of s ≡ c.options.geometry.n → (x : Leaves stands by_table s t c d i j b) → d.options ≡ c.options → AreAsMany c d → ((m : Net) → Is m (GivenUp j b i)) → Advances stands by_table Told (OneStep Is) s t c d records records
  leaves_advances Told Is s t c d records i j b size x options many is =
      goes_advances Told Is s t c d records (GivenUp j b i) (sent_entries x.call j (next_of s) x.sends ++ answer_entries x.call x.answer) x.goes options many (sent_follow x.call j (next_of s) x.sends x.answer)
      (λ p h. (tt, sent_fit x.call j (next_of s) x.sends x.answer (after p.net (GivenUp j b i)) (subst (λ (n : ℕ). IsOwned p.net.asker n j) x.number (runs_owned s c p j x.running h x.runs))))
      (tt, to_within s c size x.call j x.sends x.answer x.to)
      (λ p h. is p.net)

  pub begins_advances : (Told : Type 0) (Is : Net → Entry → Type 0) (s t : Cluster) (c d : Clients C) (records : List Records) (j : ℕ) (op : Op) → size_of s ≡ c.options.geometry.n → (x : Begins stands by_table s t c d j op) → d.options ≡ c.options → AreAsMany c d → ((p : Come) → Sees stands by_table s c p → Is p.net (Called (c.calls + 1) j op)) → Advances stands by_table Told (OneStep Is) s t c d records records
  begins_advances Told Is s t c d records j op size x options many is =
      goes_advances Told Is s t c d records (Called (c.calls + 1) j op) (sent_entries (c.calls + 1) j (next_of s) x.sends ++ answer_entries (c.calls + 1) x.answer) x.goes options many (sent_follow (c.calls + 1) j (next_of s) x.sends x.answer)
      (λ p h. (h.seen.clients.calls.range (c.calls + 1) (let e = h.seen.clients.count in omega arith), sent_fit (c.calls + 1) j (next_of s) x.sends x.answer (after p.net (Called (c.calls + 1) j op)) (record { asker = record { client = j; op = op }; made = put_here p.net.asker (c.calls + 1) (Some (record { client = j; op = op })); of_client = refl })))
      (tt, to_within s c size (c.calls + 1) j x.sends x.answer x.to)
      is

  pub goes_breaks : (Told : Type 0) (Named : Entry → Type 0) (Is : Net → Entry → Type 0) (s t : Cluster) (c : Clients C) (records : List Records) → ((p : Come) → Sees stands by_table s c p → (e : Entry) → Named e → Is p.net e) → ClientsBreak c.options.geometry (IsBegun Named) (Seen stands by_table s c None) s t → Breaks stands by_table Told (NoneOr (OneStep Is)) s t c records records
  goes_breaks Told Named Is s t c records is b = begun_breaks stands by_table Told Named Is s t c records records b.entries b.log b.begun is (λ told p h m. b.runs records p h.seen m)

  pub sees_breaks : (Told : Type 0) (Named : Entry → Type 0) (Is : Net → Entry → Type 0) (s t : Cluster) (c : Clients C) (records : List Records) → ((p : Come) → Sees stands by_table s c p → (e : Entry) → Named e → Is p.net e) → ClientsBreak c.options.geometry (IsBegun Named) (Sees stands by_table s c) s t → Breaks stands by_table Told (NoneOr (OneStep Is)) s t c records records
  sees_breaks Told Named Is s t c records is b = begun_breaks stands by_table Told Named Is s t c records records b.entries b.log b.begun is (λ told p h m. b.runs records p h m)

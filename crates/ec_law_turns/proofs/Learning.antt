-- What an account says of heads, ballots and replies goes on: as a request of its is over, as it sends one, and as others do.
use Rattle.std.proofs.Common.{◌≡◌, ◌≢◌, ◌⊎◌, ℕ, ◌+◌, ◌≤◌, Bool, true, false, cond, ◌==◌, Option, Some, None, refl, sym, ◌∙◌, ap, subst, arith, inl, ⊎_elim}
use Rattle.std.proofs.Math.Path.{fun_ext}
use Rattle.ec_attr.specs.declared.geometry.Geometry.{Geometry}
use Rattle.ec_store.specs.Put.{put}
use Rattle.ec_wire.specs.declared.message.Message.{Message}
use Rattle.ec_wire.specs.declared.reply.Reply.{Reply}
use Rattle.ec_conduct.specs.Account.{Account, Dealings, Exchange, Place, Wait, gave_up, gfid_of, heard_by, left_by, noted, over, told, with_place}
use Rattle.ec_conduct.specs.Done.{is_query, reply_to}
use Rattle.ec_conduct.specs.Given.{quorum}
use Rattle.ec_conduct.specs.Group.{Heads, group_head}
use Rattle.ec_conduct.specs.Standing.{head_of}
use Rattle.ec_law_base.specs.State.{Ballot, State}
use Rattle.ec_law_net.specs.Start.{seen_head}
use Rattle.ec_law_turns.specs.Follows.{All}
use Rattle.ec_law_turns.specs.Shown.{HasLearnt, IsOver, IsRaised, IsTold, Learns, group_in, heads_in}
use Rattle.ec_law_turns.proofs.Basics.{all_map, differ, equal, put_here, put_some, put_there, some_is, some_none}
use Rattle.ec_law_turns.proofs.Lasting.{is_over_later}
use Rattle.ec_law_turns.proofs.Later.{Later}
use Rattle.ec_law_turns.proofs.Sorts.{over_apart as on_apart, over_here as on_here, over_steps, over_waits}

-- the account by its equations
pub by_parts : (geometry : Geometry) (g : ℕ) (said : ℕ → Option Message) (turn : ℕ → Option ℕ) (of : ℕ → ℕ) (s : State) (a : ℕ) (c : Account) (waits : ℕ → Option Wait) (steps : ℕ) (d : Dealings) → c.waits ≡ waits → c.steps ≡ steps → c.on g ≡ d → Learns geometry g said turn of s a waits steps d → HasLearnt geometry g said turn of s a c
by_parts geometry g said turn of s a c waits steps d e f h l = subst (λ (w : ℕ → Option Wait). Learns geometry g said turn of s a w c.steps (c.on g)) (sym e) (subst (λ (x : ℕ). Learns geometry g said turn of s a waits x (c.on g)) (sym f) (subst (λ (x : Dealings). Learns geometry g said turn of s a waits steps x) (sym h) l))

-- the same heads have the same group
pub group_same : (geometry : Geometry) (d d' : Dealings) → ((b : ℕ) → heads_in d' b ≡ heads_in d b) → group_in geometry d' ≡ group_in geometry d
group_same geometry d d' same = ap (λ (heads : Heads). group_head geometry.n (quorum geometry) heads) (fun_ext same)

-- what a PreOp made stays so while its heads stay, no Query is sent, and the ballot stays
pub raised_later : (geometry : Geometry) (g : ℕ) (turn turn' : ℕ → Option ℕ) (s s' : State) (a : ℕ) (waits waits' : ℕ → Option Wait) (steps steps' : ℕ) (d d' : Dealings) (number : ℕ) → turn' a ≡ turn a → Later s s' → ((b : ℕ) → heads_in d' b ≡ heads_in d b) → d'.queried ≡ d.queried → steps ≤ steps' → ((b : ℕ) (w : Wait) → waits' b ≡ Some w → gfid_of w.request ≡ Some g → (waits b ≡ Some w) ⊎ (is_query w.request ≡ false)) → IsRaised geometry g turn s a waits steps d number → IsRaised geometry g turn' s' a waits' steps' d' number
raised_later geometry g turn turn' s s' a waits waits' steps steps' d d' number same later heads queried le quiet r = record {
  t = r.t;
  has = same ∙ r.has;
  head = r.head;
  group = group_same geometry d d' heads ∙ r.group;
  ballot = later.ballot r.t (let e = ap (λ (p : Ballot). p.number) r.ballot in let lt = r.above in omega (arith, e, lt)) ∙ r.ballot;
  above = r.above;
  queried = (let o = r.queried in (o.0, queried ∙ o.1, let z = o.2 in omega (arith, z, le)));
  idle = λ b w h on. ⊎_elim (λ z. r.idle b w z on) (λ z. z) (quiet b w h on);
  seen = λ b h e. later.seen r.t b (seen_head (Some h)) (r.seen b h (sym (heads b) ∙ e));
}

-- ## Others act

module _ (geometry : Geometry) (g : ℕ) (said said' : ℕ → Option Message) (turn turn' : ℕ → Option ℕ) (of of' : ℕ → ℕ) (s s' : State) (still : (i : ℕ) (x : Message) → said i ≡ Some x → (said' i ≡ Some x) × (of' i ≡ of i)) (later : Later s s') (a : ℕ) (same : turn' a ≡ turn a) (unraised : (t : ℕ) → turn a ≡ Some t → (s.ballot t).number ≡ 0 → (s'.ballot t).number ≡ 0) (waits : ℕ → Option Wait) (steps : ℕ) (d : Dealings) (l : Learns geometry g said turn of s a waits steps d) where
  pub window_later : (b : ℕ) → All (IsOver g said' of' s') (d.place b).window
  window_later b = all_map (IsOver g said of s) (IsOver g said' of' s') (λ e h. is_over_later g said said' of of' s s' still later e h) (d.place b).window (l.window b)

  pub free_later : d.dirty ≡ None → (t : ℕ) → turn' a ≡ Some t → (s'.ballot t).number ≡ 0
  free_later none t e = let old = sym same ∙ e in unraised t old (l.free none t old)

  pub learns_later : Learns geometry g said' turn' of' s' a waits steps d
  learns_later = record {
    window = window_later;
    free = free_later;
    raised = λ number e. raised_later geometry g turn turn' s s' a waits waits steps steps d d number same later (λ b. refl) refl (omega arith) (λ b w h on. inl h) (l.raised number e);
  }

-- ## A request is over

module _ (geometry : Geometry) (g : ℕ) (said : ℕ → Option Message) (turn : ℕ → Option ℕ) (of : ℕ → ℕ) (s : State) (later : Later s s) (a : ℕ) (c : Account) (l : HasLearnt geometry g said turn of s a c) where
  ends : (b : ℕ) (w : Wait) → c.waits b ≡ Some w → (e : Exchange) → e.request ≡ w.request → ((reply : Reply) → e.reply ≡ Some reply → IsTold g said of s e.number reply) → HasLearnt geometry g said turn of s a (over c b e)
  ends b w is e request tells = at (gfid_of e.request) refl
    where
      quiet : (x : ℕ) (y : Wait) → put c.waits b None x ≡ Some y → gfid_of y.request ≡ Some g → (c.waits x ≡ Some y) ⊎ (is_query y.request ≡ false)
      quiet x y h on = ⊎_elim (λ k. absurd (some_none y (sym k.1))) (λ k. inl k.1) (put_some c.waits b None x y h)

      apart : gfid_of e.request ≢ Some g → HasLearnt geometry g said turn of s a (over c b e)
      apart ne = by_parts geometry g said turn of s a (over c b e) (put c.waits b None) (c.steps + 1) (c.on g) (over_waits g c b e) (over_steps g c b e) (on_apart g c b e ne) (record {
        window = l.window;
        free = l.free;
        raised = λ number z. raised_later geometry g turn turn s s a c.waits (put c.waits b None) c.steps (c.steps + 1) (c.on g) (c.on g) number refl later (λ x. refl) refl (omega arith) quiet (l.raised number z);
      })

      d' : Dealings
      d' = with_place (c.on g) b (noted ((c.on g).place b) e)

      here : gfid_of e.request ≡ Some g → HasLearnt geometry g said turn of s a (over c b e)
      here on = by_parts geometry g said turn of s a (over c b e) (put c.waits b None) (c.steps + 1) d' (over_waits g c b e) (over_steps g c b e) (on_here g c b e on) (record {
        window = λ x. windows x (x == b) refl;
        free = l.free;
        raised = λ number z. let r = l.raised number z in raised_later geometry g turn turn s s a c.waits (put c.waits b None) c.steps (c.steps + 1) (c.on g) d' number refl later (λ x. heads (ap is_query request ∙ r.idle b w is (ap gfid_of (sym request) ∙ on)) x (x == b) refl) refl (omega arith) quiet r;
      })
        where
          windows : (x : ℕ) (t : Bool) → (x == b) ≡ t → All (IsOver g said of s) (d'.place x).window
          windows x true h = subst (λ (p : Place). All (IsOver g said of s) p.window) (sym (put_here (c.on g).place b (noted ((c.on g).place b) e) x (sym (equal x b h)))) (record { on = on; told = tells }, l.window b)
          windows x false h = subst (λ (p : Place). All (IsOver g said of s) p.window) (sym (put_there (c.on g).place b (noted ((c.on g).place b) e) x (differ x b h))) (l.window x)

          without : (t : Bool) (o p : Option Reply) → t ≡ false → head_of (cond t o p) ≡ head_of p
          without false o p e = refl
          without true o p e = absurd (cc)

          heads : is_query e.request ≡ false → (x : ℕ) (t : Bool) → (x == b) ≡ t → heads_in d' x ≡ heads_in (c.on g) x
          heads isnt x true h = ap (λ (p : Place). head_of (reply_to is_query p.window)) (put_here (c.on g).place b (noted ((c.on g).place b) e) x (sym (equal x b h))) ∙ (without (is_query e.request) e.reply (reply_to is_query ((c.on g).place b).window) isnt ∙ ap (heads_in (c.on g)) (sym (equal x b h)))
          heads isnt x false h = ap (λ (p : Place). head_of (reply_to is_query p.window)) (put_there (c.on g).place b (noted ((c.on g).place b) e) x (differ x b h))

      at : (o : Option ℕ) → gfid_of e.request ≡ o → HasLearnt geometry g said turn of s a (over c b e)
      at None h = apart (λ z. let y = sym h ∙ z in cc)
      at (Some x) h = either (x == g) refl
        where
          either : (t : Bool) → (x == g) ≡ t → HasLearnt geometry g said turn of s a (over c b e)
          either true k = here (h ∙ ap (λ (y : ℕ). Some y) (equal x g k))
          either false k = apart (λ z. differ x g k (some_is x g (sym h ∙ z)))

  pub hears_learnt : (b i : ℕ) (reply : Reply) → IsTold g said of s i reply → HasLearnt geometry g said turn of s a (heard_by c b (c.waits b) i reply)
  hears_learnt b i reply heard = at (c.waits b) refl
    where
      at : (o : Option Wait) → c.waits b ≡ o → HasLearnt geometry g said turn of s a (heard_by c b o i reply)
      at None e = l
      at (Some w) e = either (w.number == i) refl
        where
          either : (t : Bool) → (w.number == i) ≡ t → HasLearnt geometry g said turn of s a (cond t (told c b w reply) c)
          either true h = ends b w e (record { number = w.number; request = w.request; reply = Some reply }) refl (λ y same. subst (λ (j : ℕ). IsTold g said of s j y) (sym (equal w.number i h)) (subst (λ (z : Reply). IsTold g said of s i z) (some_is reply y same) heard))
          either false h = l

  pub gives_up_learnt : (b i : ℕ) → HasLearnt geometry g said turn of s a (left_by c b (c.waits b) i)
  gives_up_learnt b i = at (c.waits b) refl
    where
      at : (o : Option Wait) → c.waits b ≡ o → HasLearnt geometry g said turn of s a (left_by c b o i)
      at None e = l
      at (Some w) e = either (w.number == i)
        where
          either : (t : Bool) → HasLearnt geometry g said turn of s a (cond t (gave_up c b w) c)
          either true = ends b w e (record { number = w.number; request = w.request; reply = None }) refl (λ y same. absurd (some_none y (sym same)))
          either false = l

-- What an entry of a log makes of a gfid's record at a brick.
use Rattle.std.proofs.Common.{◌≡◌, ◌⊎◌, ℕ, ◌<◌, Bool, true, false, cond, ◌==◌, Option, Some, None, [], refl, sym, ◌∙◌, ap, subst, inl, inr}
use Rattle.std.specs.Prelude.{is_some, nat_lt}
use Rattle.ec_attr.specs.Bricks.{count_below}
use Rattle.ec_attr.specs.declared.geometry.Geometry.{Geometry}
use Rattle.ec_attr.specs.declared.gfid.Gfid.{Gfid}
use Rattle.ec_attr.specs.declared.kind.Domain.{Domain}
use Rattle.ec_attr.specs.declared.kind.Domain.TheVariants.{Inode, Heal}
use Rattle.ec_attr.specs.declared.kind.LockKind.{LockKind}
use Rattle.ec_attr.specs.declared.kind.LockKind.TheVariants.{Exclusive}
use Rattle.ec_locks.specs.Table.{holds, same_domain}
use Rattle.ec_store.specs.Put.{put}
use Rattle.ec_store.specs.Records.{Record, Records}
use Rattle.ec_wire.specs.declared.entry.Entry.{Entry}
use Rattle.ec_wire.specs.declared.entry.Entry.TheVariants.{Called, Sent, Executed, Heard, Lost, GivenUp, Stopped, Returned, Cut, Died, Yielded, Torn, Answered, Replaced}
use Rattle.ec_wire.specs.declared.message.Body.TheVariants.{ToBrick}
use Rattle.ec_wire.specs.declared.message.Message.{Message}
use Rattle.ec_wire.specs.declared.request.Request.{Request}
use Rattle.ec_wire.specs.declared.request.Request.TheVariants.{Ask}
use Rattle.ec_brick.specs.Meets.{failing_at}
use Rattle.ec_brick.specs.State.{State as Brick}
use Rattle.ec_brick.specs.Step.{Out, cut_off, started, stopped}
use Rattle.ec_history.specs.Accounts.{Books}
use Rattle.ec_history.specs.IsRun.{May as MayEnter, MayExecute, MayTear}
use Rattle.ec_history.specs.Run.{Net, after, failing, out_of, torn_out, wiped}
use Rattle.ec_history.specs.Story.{is_done}
use Rattle.ec_law_net.specs.Turns.{View}
use Rattle.ec_law_net.proofs.Locks.{held}
use Rattle.ec_law_net.proofs.Tables.{asked}
use Rattle.ec_law_turns.specs.Reached.{Reached}
use Rattle.ec_law_turns.specs.Sound.{IsSound}
use Rattle.ec_law_turns.proofs.Basics.{equal}
use Rattle.ec_law_grants.proofs.Changing.{Change, executed_change, torn_change}
use Rattle.ec_law_grants.proofs.Lasting.{executed_is, heard_bricks, torn_bricks, torn_went, went}

-- ## No Heal grant stands

heal_unsound : (g : ℕ) (said : ℕ → Option Message) (of : ℕ → ℕ) (moment : ℕ → Bool) (a b i : ℕ) (x : Gfid) (d : Domain) (kind : LockKind) → same_domain d Heal ≡ true → IsSound g said of moment a b i (Ask x d kind) → ⊥
heal_unsound g said of moment a b i x Heal kind h s = s
heal_unsound g said of moment a b i x Inode kind h s = absurd (cc)

pub unhealed : (geometry : Geometry) (g : ℕ) (m : Net) (v : View) (books : Books) → Reached geometry g m v books → (b : ℕ) → b < geometry.n → (n : ℕ) (x : Gfid) → holds (m.brick b).asks n x Heal Exclusive ≡ true → ⊥
unhealed geometry g m v books r b lt n x h =
    let o = asked m b x.0 Heal [] (m.brick b).asks n (r.locks.asks b lt) (held x Heal (m.brick b).asks n h) in
    heal_unsound g m.said v.of v.core.moment o.1.message.call o.1.message.brick o.0.number o.0.gfid o.0.domain o.0.kind o.4 (r.known.sound o.0.number o.1.message (Ask o.0.gfid o.0.domain o.0.kind) o.1.said o.1.body)

-- ## Entries

-- Brick b executes a request by entry e, or some of it; where it is done, so the entry says.
pub record Does (m : Net) (e : Entry) (b : ℕ) : Type 0 where
  pub number : ℕ
  pub message : Message
  pub request : Request
  pub said : m.said number ≡ Some message
  pub body : message.body ≡ ToBrick request
  pub flying : m.flying number ≡ true
  pub brick : message.brick ≡ b
  pub done : Bool
  pub by : done ≡ true → (version : Option ℕ) × (failed : Bool) × (e ≡ Executed number version failed) × (is_done (out_of m message request version failed).says ≡ true)

pub data EntryChange (m : Net) (g : ℕ) (e : Entry) (b : ℕ) (was now : Option Record) : Type 0 where
  Unchanged : now ≡ was → EntryChange m g e b was now
  Removed : now ≡ None → EntryChange m g e b was now
  Did : (d : Does m e b) → Change (m.brick b) g d.request d.done was now → EntryChange m g e b was now

module _ (n : ℕ) (g : ℕ) (m : Net) (to : (i : ℕ) (x : Message) (q : Request) → m.said i ≡ Some x → x.body ≡ ToBrick q → x.brick < n) (never : (b : ℕ) → b < n → (k : ℕ) (x : Gfid) → holds (m.brick b).asks k x Heal Exclusive ≡ true → ⊥) (b : ℕ) where
  abbrev Comes : Entry → (ℕ → Brick) → Type 0
  Comes e bricks = EntryChange m g e b ((m.brick b).records g) ((bricks b).records g)

  -- one brick is another
  placed : (e : Entry) (c : ℕ) (new : Brick) (bricks : ℕ → Brick) → bricks ≡ put m.brick c new → (c ≡ b → EntryChange m g e b ((m.brick b).records g) (new.records g)) → Comes e bricks
  placed e c new bricks same here = subst (Comes e) (sym same) (at (b == c) refl)
    where
      at : (t : Bool) → (b == c) ≡ t → EntryChange m g e b ((m.brick b).records g) ((cond t new (m.brick b)).records g)
      at true u = here (sym (equal b c u))
      at false u = Unchanged refl

  -- with the records that it had
  settled : (e : Entry) (c : ℕ) (new : Brick) (bricks : ℕ → Brick) → bricks ≡ put m.brick c new → new.records ≡ (m.brick c).records → Comes e bricks
  settled e c new bricks same kept = placed e c new bricks same (λ at. Unchanged (ap (λ (z : Records). z g) kept ∙ ap (λ (y : ℕ). (m.brick y).records g) at))

  on_executed : (i : ℕ) (version : Option ℕ) (failed : Bool) → MayExecute m i version failed → Comes (Executed i version failed) (after m (Executed i version failed)).brick
  on_executed i version failed may = placed (Executed i version failed) may.message.brick (out_of m may.message may.request version failed).brick (after m (Executed i version failed)).brick (ap (λ (t : Net). t.brick) (executed_is m i version failed may)) by
    where
      by : may.message.brick ≡ b → EntryChange m g (Executed i version failed) b ((m.brick b).records g) ((out_of m may.message may.request version failed).brick.records g)
      by at = Did (record {
        number = i;
        message = may.message;
        request = may.request;
        said = may.at.said;
        body = may.at.body;
        flying = may.at.flying;
        brick = at;
        done = is_done (out_of m may.message may.request version failed).says;
        by = λ d. (version, failed, refl, d);
      }) (subst (λ (y : ℕ). Change (m.brick y) g may.request (is_done (out_of m may.message may.request version failed).says) ((m.brick y).records g) ((out_of m may.message may.request version failed).brick.records g)) at
          (subst (λ (o : Out). Change (m.brick may.message.brick) g may.request (is_done o.says) ((m.brick may.message.brick).records g) (o.brick.records g)) (sym (went m i version failed may failed))
          (executed_change (m.brick may.message.brick) g (never may.message.brick (to i may.message may.request may.at.said may.at.body)) (failing failed version) may.message.client may.message.no may.request)))

  on_torn : (i count : ℕ) (version : Option ℕ) → MayTear m i count version → Comes (Torn i count version) (after m (Torn i count version)).brick
  on_torn i count version may = placed (Torn i count version) may.message.brick (torn_out m may.message may.request count version).brick (after m (Torn i count version)).brick (torn_bricks m i count version may) by
    where
      by : may.message.brick ≡ b → EntryChange m g (Torn i count version) b ((m.brick b).records g) ((torn_out m may.message may.request count version).brick.records g)
      by at = Did (record {
        number = i;
        message = may.message;
        request = may.request;
        said = may.at.said;
        body = may.at.body;
        flying = may.at.flying;
        brick = at;
        done = false;
        by = λ d. absurd (cc);
      }) (subst (λ (y : ℕ). Change (m.brick y) g may.request false ((m.brick y).records g) ((torn_out m may.message may.request count version).brick.records g)) at
          (subst (λ (o : Out). Change (m.brick may.message.brick) g may.request false ((m.brick may.message.brick).records g) (o.brick.records g)) (sym (torn_went m i count version may))
          (torn_change (m.brick may.message.brick) g (never may.message.brick (to i may.message may.request may.at.said may.at.body)) (failing_at version) count may.request)))

  wiped_is : (removed : ℕ) (all : Bool) (records : Records) → (wiped removed all records g ≡ records g) ⊎ (wiped removed all records g ≡ None)
  wiped_is removed true records = inr refl
  wiped_is removed false records = at (nat_lt (count_below g (λ x. is_some (records x))) removed)
    where
      at : (t : Bool) → (cond t None (records g) ≡ records g) ⊎ (cond t None (records g) ≡ None)
      at true = inr refl
      at false = inl refl

  on_replaced : (c removed : ℕ) (all : Bool) → Comes (Replaced c removed all) (after m (Replaced c removed all)).brick
  on_replaced c removed all = placed (Replaced c removed all) c (record (m.brick c) { records = wiped removed all (m.brick c).records }) (after m (Replaced c removed all)).brick refl (λ at. by at (wiped_is removed all (m.brick c).records))
    where
      by : c ≡ b → (wiped removed all (m.brick c).records g ≡ (m.brick c).records g) ⊎ (wiped removed all (m.brick c).records g ≡ None) → EntryChange m g (Replaced c removed all) b ((m.brick b).records g) (wiped removed all (m.brick c).records g)
      by at (inl e) = Unchanged (e ∙ ap (λ (y : ℕ). (m.brick y).records g) at)
      by at (inr e) = Removed e

  pub entry_change : (e : Entry) → MayEnter n m e → Comes e (after m e).brick
  entry_change (Called a client op) may = Unchanged refl
  entry_change (Sent msg) may = Unchanged refl
  entry_change (Executed i version failed) may = on_executed i version failed may
  entry_change (Heard i) may = Unchanged (ap (λ (f : ℕ → Brick). (f b).records g) (heard_bricks m (m.said i)))
  entry_change (Lost i) may = Unchanged refl
  entry_change (GivenUp client brick i) may = Unchanged refl
  entry_change (Stopped c) may = settled (Stopped c) c (stopped (m.brick c)) (after m (Stopped c)).brick refl refl
  entry_change (Returned c) may = settled (Returned c) c (started (m.brick c)) (after m (Returned c)).brick refl refl
  entry_change (Cut client c) may = settled (Cut client c) c (cut_off (m.brick c) client).brick (after m (Cut client c)).brick refl refl
  entry_change (Died client) may = Unchanged refl
  entry_change (Yielded client) may = Unchanged refl
  entry_change (Torn i count version) may = on_torn i count version may
  entry_change (Answered a answer) may = Unchanged refl
  entry_change (Replaced c removed all) may = on_replaced c removed all

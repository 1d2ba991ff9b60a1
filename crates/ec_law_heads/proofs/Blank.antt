-- A gfid of which no record was ever made stays blank.
use Rattle.std.proofs.Common.{◌≡◌, ◌⊎◌, ℕ, ◌+◌, ◌<◌, Bool, true, false, not, cond, ◌==◌, ◌&&◌, Option, Some, None, refl, sym, ◌∙◌, ap, subst, inl, inr}
use Rattle.ec_attr.specs.declared.config.Config.{Config}
use Rattle.ec_attr.specs.declared.geometry.Geometry.{Geometry}
use Rattle.ec_attr.specs.declared.head.Head.{Head}
use Rattle.ec_attr.specs.declared.kind.Kind.{Kind}
use Rattle.ec_conduct.specs.Given.{quorum}
use Rattle.ec_store.specs.Records.{head_at}
use Rattle.ec_history.specs.Accounts.{Books}
use Rattle.ec_history.specs.Changes.{change}
use Rattle.ec_history.specs.Flat.{Flat, blank, committed, made, made_from, name_opened, opened}
use Rattle.ec_history.specs.IsRun.{May as MayEnter, MayExecute}
use Rattle.ec_history.specs.Run.{Net, after, out_of}
use Rattle.ec_history.specs.Story.{Story, done_by, executes, failed_by, found_by, is_at, is_at_flat, is_commit, is_done, is_heal, is_unmarked, makes_a_child, op_of, opens, outcome, post_done, request_of, said_by, tears, told, told_executed, told_torn, torn_by, with_flat, with_post}
use Rattle.ec_wire.specs.declared.entry.Entry.{Entry}
use Rattle.ec_wire.specs.declared.entry.Entry.TheVariants.{Called, Sent, Executed, Torn}
use Rattle.ec_wire.specs.declared.message.Body.{Body}
use Rattle.ec_wire.specs.declared.message.Body.TheVariants.{ToBrick, ToClient}
use Rattle.ec_wire.specs.declared.message.Message.{Message}
use Rattle.ec_wire.specs.declared.request.Request.{Request}
use Rattle.ec_wire.specs.declared.request.Request.TheVariants.{PreOp, WriteChunks, SetLength, PostOp, Clear, NameSet, Make, Made, Mark, Unmark}
use Rattle.ec_law_net.specs.Turns.{View}
use Rattle.ec_law_turns.specs.Once.{is_make_of}
use Rattle.ec_law_turns.specs.Reached.{Reached}
use Rattle.ec_law_turns.proofs.Basics.{differ, equal, some_none}
use Rattle.ec_law_heads.proofs.Bounds.{HasLimit, has_limit}
use Rattle.ec_law_heads.proofs.Changing.{Did, Leaves, entry_head}
use Rattle.ec_law_heads.proofs.Making.{MadeNow, made_told, own_kind, told_kind}

-- the flat file is as it was
record SameFlat (g : ℕ) (t u : Story) : Type 0 where
  is : u.tree g ≡ t.tree g

module _ (g : ℕ) where
  same_flat : (t : Story) → SameFlat g t t
  same_flat t = record { is = refl }

  other_flat : (t : Story) (x : ℕ) (f : Flat → Flat) → (x ≡ g → ⊥) → (with_flat t x f).tree g ≡ t.tree g
  other_flat t x f never = at (g == x) refl
    where
      at : (c : Bool) → (g == x) ≡ c → cond c (f (t.tree x)) (t.tree g) ≡ t.tree g
      at true u = absurd (never (sym (equal g x u)))
      at false u = refl

  flat_if : (t : Story) (c : Bool) (u w : Story) → SameFlat g t u → SameFlat g t w → SameFlat g t (cond c u w)
  flat_if t true u w h k = h
  flat_if t false u w h k = k

  both_ways : (c : Bool) → c ≡ true → c ≡ false → ⊥
  both_ways c e f = absurd (let z = sym e ∙ f in cc)

  -- a change that comes only where a record stands
  guarded : (t : Story) (c : Bool) (x : ℕ) (f : Flat → Flat) → (x ≡ g → c ≡ false) → SameFlat g t (cond c (with_flat t x f) t)
  guarded t true x f none = record { is = other_flat t x f (λ on. both_ways true refl (none on)) }
  guarded t false x f none = same_flat t

  -- no brick has a record of the gfid
  module _ (geometry : Geometry) (m : Net) (t : Story) (msg : Message) (none : head_at (m.brick msg.brick).records g ≡ None) where
    absent_flat : (x : ℕ) → x ≡ g → is_at_flat m t msg.brick x ≡ false
    absent_flat x on = ap (λ (y : ℕ). is_at_flat m t msg.brick y) on ∙ ap (λ (o : Option Head). is_at o (t.tree g).version) none

    opens_flat : (x : ℕ) (stripes : ℕ → Bool) → SameFlat g t (opens m t msg x stripes)
    opens_flat x stripes = guarded t (not (is_heal (op_of m msg.call)) && is_at_flat m t msg.brick x) x (opened msg.call stripes) (λ on. and_false (not (is_heal (op_of m msg.call))) (is_at_flat m t msg.brick x) (absent_flat x on))
      where
        and_false : (a b : Bool) → b ≡ false → (a && b) ≡ false
        and_false true b e = e
        and_false false b e = refl

    posted_flat : (x version : ℕ) → SameFlat g t (post_done geometry m t msg.call x msg.brick version)
    posted_flat x version = at (is_unmarked (head_at (m.brick msg.brick).records x)) refl
      where
        posting : Story
        posting = with_post t msg.call x msg.brick

        commit : Flat → Flat
        commit flat = committed (quorum geometry) msg.call version (change (quorum geometry) (op_of m msg.call) (t.found msg.call) x flat) flat

        never : is_unmarked (head_at (m.brick msg.brick).records x) ≡ true → x ≡ g → ⊥
        never e on = both_ways (is_unmarked (head_at (m.brick msg.brick).records x)) e (ap (λ (y : ℕ). is_unmarked (head_at (m.brick msg.brick).records y)) on ∙ ap is_unmarked none)

        at : (c : Bool) → is_unmarked (head_at (m.brick msg.brick).records x) ≡ c → SameFlat g t (cond c (cond (is_commit geometry t msg.call x msg.brick) (with_flat posting x commit) posting) t)
        at true e = flat_if t (is_commit geometry t msg.call x msg.brick) (with_flat posting x commit) posting (record { is = other_flat posting x commit (never e) }) (record { is = refl })
        at false e = same_flat t

    done_flat : (q : Request) → is_make_of g q ≡ false → SameFlat g t (done_by geometry m t msg q)
    done_flat (WriteChunks x n first chunks) other = opens_flat x.0 _
    done_flat (SetLength x n keep count) other = opens_flat x.0 _
    done_flat (NameSet x n name child) other = guarded t (is_at_flat m t msg.brick x.0) x.0 (name_opened name) (λ on. absent_flat x.0 on)
    done_flat (Make x n child) other = record { is = other_flat t child.gfid.0 (made child.kind) (λ on. differ child.gfid.0 g other on) }
    done_flat (PostOp x n at version size attr) other = posted_flat x.0 version
    done_flat q other = same_flat t

    failed_flat : (q : Request) (version : Option ℕ) → SameFlat g t (failed_by m t msg q version)
    failed_flat (WriteChunks x n first chunks) (Some version) = opens_flat x.0 _
    failed_flat (WriteChunks x n first chunks) None = same_flat t
    failed_flat q version = same_flat t

    cut_flat : (q : Request) (version : Option ℕ) → SameFlat g t (torn_by m t msg q version)
    cut_flat (WriteChunks x n first chunks) (Some version) = flat_if t _ _ t (opens_flat x.0 _) (same_flat t)
    cut_flat (WriteChunks x n first chunks) None = same_flat t
    cut_flat q version = same_flat t

-- the kind of a flat file after a Make
never_none : (kind : Kind) (flat : Flat) → (made kind flat).kind ≡ None → ⊥
never_none kind flat e = at flat.kind refl
  where
    at : (o : Option Kind) → flat.kind ≡ o → ⊥
    at None is = some_none kind (sym (ap (λ (o : Option Kind). (made_from o kind flat).kind) is) ∙ e)
    at (Some k) is = some_none k (sym is ∙ (sym (ap (λ (o : Option Kind). (made_from o kind flat).kind) is) ∙ e))

-- As long as the flat file has no kind it is blank, and no brick has a record of it.
pub record IsUnmade (n g : ℕ) (m : Net) (flat : Flat) : Type 0 where
  pub blank_is : flat ≡ blank
  pub none : (b : ℕ) → b < n → head_at (m.brick b).records g ≡ None

module _ (geometry : Geometry) (g : ℕ) (m : Net) (v : View) (books : Books) (r : Reached geometry g m v books) (t : Story) (k : IsUnmade geometry.n g m (t.tree g)) where
  none_at : (i : ℕ) (x : Message) (q : Request) → m.said i ≡ Some x → x.body ≡ ToBrick q → head_at (m.brick x.brick).records g ≡ None
  none_at i x q is body = k.none x.brick (r.known.messages.to i x q is body)

  executed_flat : (i : ℕ) (version : Option ℕ) (failed : Bool) → MayExecute m i version failed → ((told geometry m t (Executed i version failed)).tree g).kind ≡ None → (told geometry m t (Executed i version failed)).tree g ≡ t.tree g
  executed_flat i version failed may unmade = ap (λ (u : Story). u.tree g) is ∙ by failed (ap (λ (u : Story). (u.tree g).kind) (sym is) ∙ unmade)
    where
      msg : Message
      msg = may.message

      none : head_at (m.brick msg.brick).records g ≡ None
      none = none_at i msg may.request may.at.said may.at.body

      is : told geometry m t (Executed i version failed) ≡ outcome geometry m t msg may.request version failed
      is = ap (λ (o : Option Message). told_executed geometry m t o version failed) may.at.said ∙ ap (λ (z : Body). executes geometry m t msg (request_of z) version failed) may.at.body

      by : (failed : Bool) → ((outcome geometry m t msg may.request version failed).tree g).kind ≡ None → (outcome geometry m t msg may.request version failed).tree g ≡ t.tree g
      by true unmade = (failed_flat g geometry m t msg none may.request version).is
      by false unmade = answered (is_done (out_of m msg may.request version false).says) (is_make_of g may.request) refl unmade
        where
          own : (q : Request) → is_make_of g q ≡ true → ((done_by geometry m t msg q).tree g).kind ≡ None → (done_by geometry m t msg q).tree g ≡ t.tree g
          own (Make x n child) on unmade = absurd (never_none child.kind (t.tree g) (here child.gfid.0 (equal child.gfid.0 g on) unmade))
            where
              here : (x : ℕ) → x ≡ g → ((with_flat t x (made child.kind)).tree g).kind ≡ None → (made child.kind (t.tree g)).kind ≡ None
              here x on e = sym (own_kind g t x (made child.kind) on) ∙ e
          own q on unmade = absurd (cc)

          answered : (d c : Bool) → is_make_of g may.request ≡ c → ((cond d (done_by geometry m t msg may.request) t).tree g).kind ≡ None → (cond d (done_by geometry m t msg may.request) t).tree g ≡ t.tree g
          answered false c f unmade = refl
          answered true true f unmade = own may.request f unmade
          answered true false f unmade = (done_flat g geometry m t msg none may.request f).is

  torn_flat : (o : Option Message) (i : ℕ) (version : Option ℕ) → m.said i ≡ o → (told_torn m t o version).tree g ≡ t.tree g
  torn_flat None i version is = refl
  torn_flat (Some msg) i version is = by msg.body refl
    where
      by : (z : Body) → msg.body ≡ z → (tears m t msg (request_of z) version).tree g ≡ t.tree g
      by (ToBrick q) body = (cut_flat g geometry m t msg (none_at i msg q is body) q version).is
      by (ToClient re reply) body = refl

  told_flat : (e : Entry) → MayEnter geometry.n m e → ((told geometry m t e).tree g).kind ≡ None → (told geometry m t e).tree g ≡ t.tree g
  told_flat (Called a client op) may unmade = by (makes_a_child op)
    where
      by : (c : Bool) → (cond c (record (found_by t a (λ f. record f { took = t.next_gfid })) { next_gfid = t.next_gfid + 1 }) t).tree g ≡ t.tree g
      by true = refl
      by false = refl
  told_flat (Sent msg) may unmade = by msg.body
    where
      by : (z : Body) → (said_by t msg.call z).tree g ≡ t.tree g
      by (ToBrick (WriteChunks x n first chunks)) = refl
      by (ToBrick (NameSet x n name (Some child))) = refl
      by z = refl
  told_flat (Executed i version failed) may unmade = executed_flat i version failed may unmade
  told_flat (Torn i count version) may unmade = torn_flat (m.said i) i version refl
  told_flat e may unmade = refl

  -- a head that came would be one of a Make
  no_head : (e : Entry) → MayEnter geometry.n m e → (t.tree g).kind ≡ None → ((told geometry m t e).tree g).kind ≡ None → (b : ℕ) → b < geometry.n → (o : Option Head) → head_at ((after m e).brick b).records g ≡ o → o ≡ None
  no_head e may was unmade b lt None is = refl
  no_head e may was unmade b lt (Some h) is = absurd (at (entry_head g m b h geometry.n e may is))
    where
      left : (config : Config) (i : ℕ) (version : Option ℕ) (x : Message) (q : Request) → e ≡ Executed i version false → m.said i ≡ Some x → x.body ≡ ToBrick q → is_done (out_of m x q version false).says ≡ true → HasLimit g q → Leaves config g q (head_at (m.brick b).records g) h → ⊥
      left config i version x (PreOp y n at dirty) entry said body done limit l = some_none l.1.0 (sym l.1.1 ∙ k.none b lt)
      left config i version x (PostOp y n at to size attr) entry said body done limit l = some_none l.1.0 (sym l.1.1 ∙ k.none b lt)
      left config i version x (Clear y n at) entry said body done limit l = some_none l.1.0 (sym l.1.1 ∙ k.none b lt)
      left config i version x (Made y n child) entry said body done limit l = some_none l.1.0 (sym l.1.1 ∙ k.none b lt)
      left config i version x (Make y n child) entry said body done limit l = never_none child.kind (t.tree g) (sym (made_told g geometry m t i version x y n child said body done l.0) ∙ subst (λ (z : Entry). ((told geometry m t z).tree g).kind ≡ None) entry unmade)
      left config i version x (Mark y n heal head) entry said body done limit l = limit l
      left config i version x (Unmark y n at dirty) entry said body done limit l = limit l
      left config i version x q entry said body done limit l = l

      at : (head_at (m.brick b).records g ≡ Some h) ⊎ Did g m e b h → ⊥
      at (inl old) = some_none h (sym old ∙ k.none b lt)
      at (inr d) = left (m.brick b).config d.number d.version d.message d.request d.entry d.said d.body d.done (has_limit geometry g m v books r d.number d.message d.request d.said d.body) d.leaves

  unmade_entry : (e : Entry) → MayEnter geometry.n m e → (t.tree g).kind ≡ None → ((told geometry m t e).tree g).kind ≡ None → IsUnmade geometry.n g (after m e) ((told geometry m t e).tree g)
  unmade_entry e may was unmade = record { blank_is = told_flat e may unmade ∙ k.blank_is; none = λ b lt. no_head e may was unmade b lt (head_at ((after m e).brick b).records g) refl }

-- so it goes on, entry by entry
pub unmade_goes : (geometry : Geometry) (g : ℕ) (m : Net) (v : View) (books : Books) (t : Story) (e : Entry) → MayEnter geometry.n m e → Reached geometry g m v books → ((t.tree g).kind ≡ None → IsUnmade geometry.n g m (t.tree g)) → ((told geometry m t e).tree g).kind ≡ None → IsUnmade geometry.n g (after m e) ((told geometry m t e).tree g)
unmade_goes geometry g m v books t e may r k unmade = at (told_kind g geometry m t geometry.n e may)
  where
    at : (((told geometry m t e).tree g).kind ≡ (t.tree g).kind) ⊎ MadeNow g geometry m t e → IsUnmade geometry.n g (after m e) ((told geometry m t e).tree g)
    at (inl same) = let was = sym same ∙ unmade in unmade_entry geometry g m v books r t (k was) e may was unmade
    at (inr d) = absurd (never_none d.child.kind (t.tree g) (sym d.kind ∙ unmade))

-- What a request is that a brick executes, as far as commits go: a PostOp on the gfid that is done, or one of whose acts none is a
-- PostOp.
use Rattle.std.proofs.Common.{◌≡◌, ◌⊎◌, ℕ, Bool, true, false, not, cond, ◌&&◌, Option, Some, List, ◌∷◌, ◌++◌, refl, sym, ◌∙◌, ap, subst, inl, inr}
use Rattle.ec_attr.specs.Marks.{is_marked, stripped}
use Rattle.ec_attr.specs.declared.attr.Attr.{Attr}
use Rattle.ec_attr.specs.declared.geometry.Geometry.{Geometry}
use Rattle.ec_attr.specs.declared.gfid.Gfid.{Gfid}
use Rattle.ec_attr.specs.declared.kind.Domain.TheVariants.{Inode}
use Rattle.ec_brick.specs.Step.{Fine, Out, executed as executed_at, quiet as quiet_out}
use Rattle.ec_conduct.specs.Given.{quorum}
use Rattle.ec_history.specs.IsRun.{is_fault}
use Rattle.ec_history.specs.Run.{Net, out_of}
use Rattle.ec_history.specs.Story.{is_done, is_unmarked}
use Rattle.ec_store.specs.Records.{head_at}
use Rattle.ec_wire.specs.declared.message.Body.TheVariants.{ToBrick}
use Rattle.ec_wire.specs.declared.message.Message.{Message}
use Rattle.ec_wire.specs.declared.request.Request.{Request}
use Rattle.ec_wire.specs.declared.request.Request.TheVariants.{Ask, Release, Query, PreOp, ReadChunks, WriteChunks, SetLength, PostOp, Clear, NameGet, NamesAfter, NameSet, NamesPut, Make, Made, Unmake, Mark, Unmark, GfidsAfter}
use Rattle.ec_law_base.specs.State.{target as target_of}
use Rattle.ec_law_ballots.specs.Act.{Act}
use Rattle.ec_law_ballots.specs.Act.Act.{Post, Sink_post}
use Rattle.ec_law_net.specs.Turns.{View, acts_locks, acts_of_request, acts_worked, counted, exclusive}
use Rattle.ec_law_turns.specs.Told.{Told}
use Rattle.ec_law_turns.proofs.Basics.{equal}
use Rattle.ec_law_data.specs.Deeds.{is_post_on}
use Rattle.ec_law_data.proofs.Entries.{fault_not_done}
use Rattle.ec_law_data.proofs.FlatVersions.{post_head, worked_is}
use Rattle.ec_law_data.proofs.Guards.{Easy, easy_both, easy_locks, easy_worked, is_marking}

module _ (geometry : Geometry) (g : ℕ) (m : Net) (v : View) (msg : Message) (q : Request) (version : Option ℕ) (failed : Bool) where
  abbrev pub out : Out
  out = out_of m msg q version failed

  abbrev pub its_acts : List Act
  its_acts = acts_of_request g m v msg (ToBrick q) version failed

  -- no PostOp is done
  pub record IsNoPost : Type 0 where
    pub easy : Easy its_acts
    pub not_done : (is_done out.says && is_post_on g q) ≡ false
    pub fault : failed ≡ true → is_done out.says ≡ false

  -- a PostOp is done, on a marked record or on another one
  pub record IsPost : Type 0 where
    pub gfid : Gfid
    pub grant : ℕ
    pub old : ℕ
    pub new : ℕ
    pub size : ℕ
    pub attr : Option Attr
    pub is : q ≡ PostOp gfid grant old new size attr
    pub on : gfid.0 ≡ g
    pub fine : failed ≡ false
    pub done : is_done out.says ≡ true
    pub rest : List Act
    pub easy : Easy rest
    pub acts : its_acts ≡ cond (is_marked old) (Sink_post (v.of msg.no) msg.brick) (Post (v.of msg.no) msg.brick) ∷ rest
    pub unmarked : is_unmarked (head_at (m.brick msg.brick).records g) ≡ not (is_marked old)
    pub target : target_of (v.core.ballot (v.of msg.no)) ≡ stripped new
    pub mark : is_marked new ≡ is_marked old

  abbrev worked_acts : List Act
  worked_acts = acts_worked g (v.of msg.no) msg.brick (counted v.core (v.of msg.no) (exclusive g Inode (m.brick msg.brick).asks)) q out.says

  abbrev lock_acts : List Act
  lock_acts = acts_locks g m v msg.brick (m.brick msg.brick).asks out.brick.asks

  both : (t u : Bool) → (t && u) ≡ true → (t ≡ true) × (u ≡ true)
  both true u e = (refl, e)
  both false u e = absurd (cc)

  pub kind : (m.brick msg.brick).up ≡ true → failed ≡ is_fault out.says → is_marking g q ≡ false → Told geometry.n (quorum geometry) g m.said v.of v.core (v.of msg.no) msg.brick q → IsNoPost ⊎ IsPost
  kind up fault unmarking told = by (is_done out.says && is_post_on g q) refl
    where
      faulty : failed ≡ true → is_done out.says ≡ false
      faulty f = fault_not_done out.says (sym fault ∙ f)

      went : failed ≡ false → out ≡ executed_at (m.brick msg.brick) Fine msg.client msg.no q
      went f = ap (λ (c : Bool). out_of m msg q version c) f ∙ ap (λ (c : Bool). cond c (executed_at (m.brick msg.brick) Fine msg.client msg.no q) (quiet_out (m.brick msg.brick))) up

      fine : is_done out.says ≡ true → (f : Bool) → failed ≡ f → failed ≡ false
      fine d false e = e
      fine d true e = absurd (let z = sym (faulty e) ∙ d in cc)

      posts : (r : Request) → q ≡ r → is_done out.says ≡ true → is_post_on g r ≡ true → IsNoPost ⊎ IsPost
      posts (PostOp x grant at new size attr) is done on =
          let here = equal x.0 g on in
          let well = fine done failed refl in
          let head = post_head (m.brick msg.brick) msg.client msg.no x grant at new size attr (subst (λ (y : Request). is_done (executed_at (m.brick msg.brick) Fine msg.client msg.no y).says ≡ true) is (subst (λ (z : Out). is_done z.says ≡ true) (went well) done)) in
          let post = (subst (λ (y : Request). Told geometry.n (quorum geometry) g m.said v.of v.core (v.of msg.no) msg.brick y) is told) here in
          inr (record {
            gfid = x;
            grant = grant;
            old = at;
            new = new;
            size = size;
            attr = attr;
            is = is;
            on = here;
            fine = well;
            done = done;
            rest = lock_acts;
            easy = easy_locks g m v msg.brick (m.brick msg.brick).asks out.brick.asks;
            acts = ap (λ (z : List Act). z ++ lock_acts) (ap (λ (y : Request). acts_worked g (v.of msg.no) msg.brick (counted v.core (v.of msg.no) (exclusive g Inode (m.brick msg.brick).asks)) y out.says) is ∙ worked_is g (v.of msg.no) msg.brick (counted v.core (v.of msg.no) (exclusive g Inode (m.brick msg.brick).asks)) x grant at new size attr out.says done here);
            unmarked = ap is_unmarked (subst (λ (y : ℕ). head_at (m.brick msg.brick).records y ≡ Some head.0) here head.1) ∙ ap (λ (z : ℕ). not (is_marked z)) head.2;
            target = post.target;
            mark = post.mark;
          })
      posts (Ask x domain kind) is done on = absurd (cc)
      posts (Release x n) is done on = absurd (cc)
      posts (Query x n) is done on = absurd (cc)
      posts (PreOp x n at dirty) is done on = absurd (cc)
      posts (ReadChunks x n first count) is done on = absurd (cc)
      posts (WriteChunks x n first chunks) is done on = absurd (cc)
      posts (SetLength x n keep count) is done on = absurd (cc)
      posts (Clear x n at) is done on = absurd (cc)
      posts (NameGet x n name) is done on = absurd (cc)
      posts (NamesAfter x n start) is done on = absurd (cc)
      posts (NameSet x n name child) is done on = absurd (cc)
      posts (NamesPut x n start upto list) is done on = absurd (cc)
      posts (Make x n child) is done on = absurd (cc)
      posts (Made x n child) is done on = absurd (cc)
      posts (Unmake x n child) is done on = absurd (cc)
      posts (Mark x n heal head) is done on = absurd (cc)
      posts (Unmark x n at dirty) is done on = absurd (cc)
      posts (GfidsAfter start dirty) is done on = absurd (cc)

      by : (c : Bool) → (is_done out.says && is_post_on g q) ≡ c → IsNoPost ⊎ IsPost
      by false e = inl (record { easy = easy_both worked_acts lock_acts (easy_worked g (v.of msg.no) msg.brick (counted v.core (v.of msg.no) (exclusive g Inode (m.brick msg.brick).asks)) q out.says e unmarking) (easy_locks g m v msg.brick (m.brick msg.brick).asks out.brick.asks); not_done = e; fault = faulty })
      by true e = let h = both (is_done out.says) (is_post_on g q) e in posts q refl h.0 h.1

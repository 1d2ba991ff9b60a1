-- A log that begins at a marked flat version: no call commits on the gfid, and the records at that version stay as they were.
use Rattle.std.proofs.Common.{◌≡◌, ◌⊎◌, ℕ, ◌<◌, ◌≤◌, Bool, true, false, ◌&&◌, Option, Some, None, List, [], ◌∷◌, refl, sym, ◌∙◌, ap, subst, inl, inr}
use Rattle.ec_attr.specs.Marks.{is_marked}
use Rattle.ec_attr.specs.declared.config.Config.{Config}
use Rattle.ec_attr.specs.declared.geometry.Geometry.{Geometry}
use Rattle.ec_attr.specs.declared.head.Head.{Head}
use Rattle.ec_attr.specs.declared.kind.Kind.{Kind}
use Rattle.ec_store.specs.Records.{head_at}
use Rattle.ec_history.specs.Accounts.{Books, Leaving, booked, books}
use Rattle.ec_history.specs.Flat.{Flat, Tree, made_from}
use Rattle.ec_history.specs.IsRun.{IsRun, May as MayEnter, MayExecute}
use Rattle.ec_history.specs.Run.{Net, after as net_after, out_of, run}
use Rattle.ec_history.specs.Story.{Story, executes, is_done, request_of, story, told, told_executed}
use Rattle.ec_wire.specs.declared.entry.Entry.{Entry}
use Rattle.ec_wire.specs.declared.entry.Entry.TheVariants.{Called, Sent, Executed, Torn}
use Rattle.ec_wire.specs.declared.message.Body.{Body}
use Rattle.ec_wire.specs.declared.message.Body.TheVariants.{ToBrick}
use Rattle.ec_wire.specs.declared.message.Message.{Message}
use Rattle.ec_wire.specs.declared.request.Request.{Request}
use Rattle.ec_wire.specs.declared.request.Request.TheVariants.{Clear, Made, Make, Mark, PostOp, PreOp, Unmark}
use Rattle.ec_law_net.specs.Turns.{View, seen_after}
use Rattle.ec_law_turns.specs.Orderly.{ArePlain}
use Rattle.ec_law_turns.proofs.Basics.{itself}
use Rattle.ec_law_turns.proofs.Runs.{Kept, kept_there, plain_first}
use Rattle.ec_law_data.specs.Deeds.{is_post_on}
use Rattle.ec_law_data.specs.Forms.{Shape}
use Rattle.ec_law_data.proofs.Reaching.{Reaches, reaches_then}
use Rattle.ec_law_data.proofs.Stories.{said_same}
use Rattle.ec_law_heads.proofs.Blank.{IsUnmade, unmade_goes}
use Rattle.ec_law_heads.proofs.Bounds.{HasLimit, has_limit}
use Rattle.ec_law_heads.proofs.Changing.{Did, Leaves, entry_head}
use Rattle.ec_law_shapes.specs.Shapes.{head_shape}
use Rattle.ec_law_sizes.proofs.Extending.{whole}
use Rattle.ec_law_sizes.proofs.Later.{still_log}
use Rattle.ec_law_sizes.proofs.Telling.{MakeKeeps, SameShown, began_shown, outcome_shown, same_shown, shown_file, torn_shown}

-- no PostOp on the gfid was sent
abbrev pub NoPosts : ℕ → Net → Type 0
NoPosts g m = (i : ℕ) (x : Message) (q : Request) → m.said i ≡ Some x → x.body ≡ ToBrick q → is_post_on g q ≡ true → ⊥

-- The flat file is at that version, and counts as having this shape; so has each record at that version.
pub record Frozen (n g version : ℕ) (shape : Shape) (m : Net) (flat : Flat) : Type 0 where
  pub at : flat.version ≡ version
  pub shown : shown_file shape flat ≡ shape
  pub unmade : flat.kind ≡ None → IsUnmade n g m flat
  pub heads : (b : ℕ) (h : Head) → b < n → head_at (m.brick b).records g ≡ Some h → h.version.content ≡ version → head_shape h ≡ shape

module _ (geometry : Geometry) (left : ℕ → Leaving) (none : (a : ℕ) → (left a).kept ≡ None) (first : ℕ) (origins : ℕ → ℕ) (new_origins : (h : ℕ) → first ≤ h → origins h ≡ 0) (g version : ℕ) (marked : is_marked version ≡ true) (shape : Shape) where
  not_blank : 0 ≡ version → ⊥
  not_blank e = absurd (let z = ap is_marked e ∙ marked in cc)

  -- an entry
  module _ (e : Entry) (m : Net) (vs : ℕ → View) (t : Story) (b : Books) (may : MayEnter geometry.n m e) (k : Reaches geometry first origins m vs t b) (no_posts : NoPosts g m) (f : Frozen geometry.n g version shape m (t.tree g)) where
    abbrev Same : Story → Type 0
    Same u = SameShown whole shape (t.tree g) (u.tree g)

    -- the gfid has a kind, so a Make leaves it
    make_keeps : (q : Request) → MakeKeeps whole shape g q (t.tree g)
    make_keeps (Make x n child) = λ on. by (t.tree g).kind refl
      where
        by : (o : Option Kind) → (t.tree g).kind ≡ o → SameShown whole shape (t.tree g) (made_from o child.kind (t.tree g))
        by (Some kind) is = same_shown whole shape (t.tree g)
        by None is = absurd (not_blank (sym (ap (λ (y : Flat). y.version) (f.unmade is).blank_is) ∙ f.at))
    make_keeps q = tt

    shut : (d u : Bool) → (u ≡ true → ⊥) → (d && u) ≡ false
    shut true true never = absurd (never refl)
    shut false u never = refl
    shut true false never = refl

    executed_then : (i : ℕ) (read : Option ℕ) (failed : Bool) → MayExecute m i read failed → Same (told geometry m t (Executed i read failed))
    executed_then i read failed x =
        subst Same (sym (ap (λ (o : Option Message). told_executed geometry m t o read failed) x.at.said ∙ ap (λ (z : Body). executes geometry m t x.message (request_of z) read failed) x.at.body))
        (outcome_shown whole shape g geometry m t x.message x.request read failed (shut (is_done (out_of m x.message x.request read failed).says) (is_post_on g x.request) (λ on. no_posts i x.message x.request x.at.said x.at.body on)) (make_keeps x.request))

    told_then : (x : Entry) → e ≡ x → Same (told geometry m t x)
    told_then (Called a client op) is = began_shown whole shape g t a op
    told_then (Sent msg) is = subst (λ (y : Tree). SameShown whole shape (t.tree g) (y g)) (sym (said_same t msg.call msg.body).1) (same_shown whole shape (t.tree g))
    told_then (Executed i read failed) is = executed_then i read failed (subst (λ (z : Entry). MayEnter geometry.n m z) is may)
    told_then (Torn i count read) is = torn_shown whole shape g geometry m t (m.said i) read
    told_then x is = same_shown whole shape (t.tree g)

    leaves_then : (config : Config) (c : ℕ) (h : Head) (q : Request) → c < geometry.n → HasLimit g q → (is_post_on g q ≡ true → ⊥) → h.version.content ≡ version → Leaves config g q (head_at (m.brick c).records g) h → head_shape h ≡ shape
    leaves_then config c h (PreOp x n at dirty) lt limit never is l = ap head_shape l.1.2 ∙ f.heads c l.1.0 lt l.1.1 (sym (ap (λ (z : Head). z.version.content) l.1.2) ∙ is)
    leaves_then config c h (Clear x n at) lt limit never is l = ap head_shape l.1.2 ∙ f.heads c l.1.0 lt l.1.1 (sym (ap (λ (z : Head). z.version.content) l.1.2) ∙ is)
    leaves_then config c h (Made x n child) lt limit never is l = ap head_shape l.1.2 ∙ f.heads c l.1.0 lt l.1.1 (sym (ap (λ (z : Head). z.version.content) l.1.2) ∙ is)
    leaves_then config c h (PostOp x n at to size attr) lt limit never is l = absurd (never (subst (λ (y : ℕ). is_post_on y (PostOp x n at to size attr) ≡ true) l.0 (itself x.0)))
    leaves_then config c h (Make x n child) lt limit never is l = absurd (not_blank (sym (ap (λ (z : Head). z.version.content) l.2) ∙ is))
    leaves_then config c h (Mark x n heal head) lt limit never is l = absurd (limit l)
    leaves_then config c h (Unmark x n at dirty) lt limit never is l = absurd (limit l)
    leaves_then config c h q lt limit never is l = absurd l

    head_then : (c : ℕ) (h : Head) → c < geometry.n → h.version.content ≡ version → (head_at (m.brick c).records g ≡ Some h) ⊎ Did g m e c h → head_shape h ≡ shape
    head_then c h lt is (inl old) = f.heads c h lt old is
    head_then c h lt is (inr d) = leaves_then (m.brick c).config c h d.request lt (has_limit geometry g m (vs g) b (k.reached g) d.number d.message d.request d.said d.body) (λ on. no_posts d.number d.message d.request d.said d.body on) is d.leaves

    frozen_then : Frozen geometry.n g version shape (net_after m e) ((told geometry m t e).tree g)
    frozen_then =
        let same = told_then e refl in
        record {
          at = same.version ∙ f.at;
          shown = same.shape ∙ f.shown;
          unmade = unmade_goes geometry g m (vs g) b t e may (k.reached g) f.unmade;
          heads = λ c h lt is at. head_then c h lt at (entry_head g m c h geometry.n e may is);
        }

  pub frozen : (es : List Entry) (m : Net) (vs : ℕ → View) (t : Story) (b : Books) → IsRun geometry.n es m → ArePlain es → Kept geometry left none (books geometry left es m t b) → Reaches geometry first origins m vs t b → NoPosts g (run es m) → Frozen geometry.n g version shape m (t.tree g) → Frozen geometry.n g version shape (run es m) ((story geometry es m t).tree g)
  frozen [] m vs t b runs plain kept k no_posts f = f
  frozen (e ∷ es) m vs t b runs plain kept k no_posts f =
      let p = plain_first e es plain in
      let may = kept_there geometry left none e es m t b runs plain (k.reached g).known.numbers kept in
      let now : NoPosts g m = λ i x q is body on. no_posts i x q (still_log geometry left none first origins new_origins g (e ∷ es) m vs t b runs plain kept k i x is).0 body on in
      frozen es (net_after m e) (λ h. seen_after h m (vs h) e) (told geometry m t e) (booked geometry left m t b e) runs.1 p.1 kept (reaches_then geometry left none first origins new_origins m vs t b e p.0 runs.0 may k) no_posts
      (frozen_then e m vs t b runs.0 k now f)

-- A brick executes a request: the shapes that it leaves are those of its record, and what it tells of heads is so.
use Rattle.std.proofs.Common.{◌≡◌, ◌≢◌, ◌⊎◌, ℕ, ◌<◌, ◌≤◌, Bool, true, false, not, cond, ◌==◌, ◌&&◌, ◌||◌, Option, Some, None, List, [], ◌∷◌, ◌++◌, map, refl, sym, ◌∙◌, ap, subst, arith, inl, inr}
use Rattle.std.specs.Prelude.{is_some}
use Rattle.std.proofs.lemmas.List.{map-append}
use Rattle.ec_attr.specs.Marks.{is_marked}
use Rattle.ec_attr.specs.declared.attr.Attr.{Attr}
use Rattle.ec_attr.specs.declared.geometry.Geometry.{Geometry}
use Rattle.ec_attr.specs.declared.gfid.Gfid.{Gfid}
use Rattle.ec_attr.specs.declared.head.Head.{Head}
use Rattle.ec_attr.specs.declared.kind.Child.{Child}
use Rattle.ec_attr.specs.declared.kind.Domain.TheVariants.{Inode}
use Rattle.ec_attr.specs.declared.kind.LockKind.TheVariants.{Shared}
use Rattle.ec_locks.specs.Table.{holds}
use Rattle.ec_locks.specs.declared.ask.Ask.{Ask as Asking}
use Rattle.ec_store.specs.Records.{head_at}
use Rattle.ec_wire.specs.declared.message.Body.TheVariants.{ToBrick}
use Rattle.ec_wire.specs.declared.message.Message.{Message}
use Rattle.ec_wire.specs.declared.reply.Reply.{Reply}
use Rattle.ec_wire.specs.declared.reply.Reply.TheVariants.{Head as HeadIs}
use Rattle.ec_wire.specs.declared.request.Request.{Request}
use Rattle.ec_wire.specs.declared.request.Request.TheVariants.{Ask, Make, PostOp, Query}
use Rattle.ec_brick.specs.Replies.{Replies, Is}
use Rattle.ec_brick.specs.State.{State as Brick}
use Rattle.ec_brick.specs.Step.{Out, executed, quiet}
use Rattle.ec_brick.specs.Work.{committed}
use Rattle.ec_conduct.specs.Given.{quorum}
use Rattle.ec_history.specs.Accounts.{Books}
use Rattle.ec_history.specs.IsRun.{MayExecute}
use Rattle.ec_history.specs.Run.{Net, executed_as, failing, let_in_owed, out_of, own_owed}
use Rattle.ec_history.specs.Story.{is_done}
use Rattle.ec_law_base.specs.State.{Head as Seen, State, put2, target}
use Rattle.ec_law_ballots.specs.Act.{Act}
use Rattle.ec_law_ballots.specs.Act.Act.{Post, Sink_post}
use Rattle.ec_law_ballots.specs.Guard.{Runs}
use Rattle.ec_law_ballots.specs.Words.{head}
use Rattle.ec_law_pieces.specs.Deed.{Deed, after as after_deeds}
use Rattle.ec_law_pieces.specs.File.{File}
use Rattle.ec_law_shapes.proofs.Facts.{Facts}
use Rattle.ec_law_net.specs.Grants.{IsAskOf}
use Rattle.ec_law_net.specs.Link.{IsHead}
use Rattle.ec_law_net.specs.Turns.{Maker, View, acts_locks, acts_worked, counted, exclusive, is_shown}
use Rattle.ec_law_turns.specs.Once.{is_make_of}
use Rattle.ec_law_turns.specs.Reached.{Reached}
use Rattle.ec_law_turns.specs.Sound.{IsSound}
use Rattle.ec_law_turns.specs.Told.{ToldPostOp}
use Rattle.ec_law_turns.proofs.Basics.{differ, equal, itself, put_here, put_there}
use Rattle.ec_law_turns.proofs.Says.{says_head}
use Rattle.ec_law_turns.proofs.Tracks.{request_is}
use Rattle.ec_law_data.specs.Deeds.{deeds_of_request, dressed, is_post_on}
use Rattle.ec_law_data.specs.Forms.{Shape}
use Rattle.ec_law_data.specs.Reading.{Plans, Reading}
use Rattle.ec_law_data.proofs.Guards.{is_marking}
use Rattle.ec_law_data.proofs.OrderlyDeeds.{unmarking}
use Rattle.ec_law_shapes.specs.Fitting.{AllOweShape, ChildFits}
use Rattle.ec_law_shapes.specs.Shapes.{ShapesFollow, IsShape, OwedAre, TellsShape, head_shape, posted_shape}
use Rattle.ec_law_shapes.proofs.Moving.{Calmly, Created, Makes, Moves, Posted, Posts, Saw, Sees, Stays, Still, Works, is_special, moves, works}
use Rattle.ec_law_shapes.proofs.Owing.{calm_owe, owe_both, request_owe}
use Rattle.ec_law_shapes.proofs.Quiet.{Same, calm_locks, request_keeps}
use Rattle.ec_law_shapes.proofs.Records.{Kept, executed_kept, executed_made, executed_posted}
use Rattle.ec_law_shapes.proofs.Replying.{lets_in_are, owed_both, own_are}
use Rattle.ec_law_shapes.proofs.Telling.{is_shape_later, landed_still}

put2_here : {X : Type 0} (f : ℕ → ℕ → X) (a b : ℕ) (x : X) → put2 f a b x a b ≡ x
put2_here f a b x = at (a == a) (b == b) (itself a) (itself b)
  where
    at : (t u : Bool) → t ≡ true → u ≡ true → cond (t && u) x (f a b) ≡ x
    at true true h i = refl
    at true false h i = absurd (cc)
    at false u h i = absurd (cc)

put2_there : {X : Type 0} (f : ℕ → ℕ → X) (a b : ℕ) (x : X) (c d : ℕ) → (c ≡ a → d ≡ b → ⊥) → put2 f a b x c d ≡ f c d
put2_there f a b x c d ne = at (c == a) (d == b) refl refl
  where
    at : (t u : Bool) → (c == a) ≡ t → (d == b) ≡ u → cond (t && u) x (f c d) ≡ f c d
    at true true h i = absurd (ne (equal c a h) (equal d b i))
    at true false h i = refl
    at false u h i = refl

none_of : (o : Option Seen) → (is_some o ≡ true → ⊥) → o ≡ None
none_of None h = refl
none_of (Some x) h = absurd (h refl)

module _ {P V C U : Type 0} (R : Reading P V C U Shape) (plans : Plans P V U Shape) (geometry : Geometry) (g first : ℕ) (m : Net) (v : View) (b : Books) (f : File P V C U Shape) (r : Reached geometry g m v b) (h : ShapesFollow geometry.n first g R.new m v b f) (both : Facts geometry.n (quorum geometry) f)
    (i : ℕ) (version : Option ℕ) (failed : Bool) (may : MayExecute m i version failed) (new_gfid : (x : Maker) → v.maker ≡ Some x → first ≤ g) (fitting : ChildFits R plans g may.request) where
  abbrev n : ℕ
  n = geometry.n

  abbrev k' : ℕ
  k' = quorum geometry

  abbrev pub msg : Message
  msg = may.message

  abbrev pub q : Request
  q = may.request

  abbrev a : ℕ
  a = v.of msg.no

  abbrev bk : ℕ
  bk = msg.brick

  abbrev pub out : Out
  out = out_of m msg q version failed

  abbrev work : List Act
  work = acts_worked g a bk (counted v.core a (exclusive g Inode (m.brick bk).asks)) q out.says

  abbrev locks : List Act
  locks = acts_locks g m v bk (m.brick bk).asks out.brick.asks

  abbrev pub f3 : File P V C U Shape
  f3 = after_deeds R.form n k' (deeds_of_request R plans n k' g m v f msg (ToBrick q) version failed ++ map (dressed R plans n k' g) (work ++ locks)) f

  no : msg.no ≡ i
  no = (r.known.messages.number i msg may.at.said).0

  said : m.said msg.no ≡ Some msg
  said = ap m.said no ∙ may.at.said

  below : bk < geometry.n
  below = r.linked.to i msg q may.at.said may.at.body

  went : out ≡ executed (m.brick bk) (failing failed version) msg.client msg.no q
  went = ap (λ (t : Bool). cond t (executed (m.brick bk) (failing failed version) msg.client msg.no q) (quiet (m.brick bk))) may.at.up

  unmarked : is_marking g q ≡ false
  unmarked = unmarking g m.said v.of v.core.moment msg.call msg.brick i q (r.known.sound i msg q may.at.said may.at.body)

  moved : Moves R.new g a bk q out.says f f3
  moved = let keeps = request_keeps R plans n k' g f m v msg (ToBrick q) version failed in
      moves R plans n k' g a bk q out.says f (deeds_of_request R plans n k' g m v f msg (ToBrick q) version failed) work locks keeps.0 keeps.1 (works g a bk out.says (counted v.core a (exclusive g Inode (m.brick bk).asks)) q unmarked) (calm_locks g m v bk (m.brick bk).asks out.brick.asks)

  -- plans stay
  pub stayed : Stays f f3
  stayed = by moved
    where
      by : Moves R.new g a bk q out.says f f3 → Stays f f3
      by (Still s other) = record { took = s.took; planned = s.planned; becomes = s.becomes }
      by (Saw x j is on d s shape shape_of making told seen) = s
      by (Posted x j at new size attr is on d s told seen making shape shape_of) = s
      by (Created x j child is on d s told seen shape shape_of) = s

  -- ## Records

  shape_there : (c : ℕ) → c ≢ bk → f3.shape c ≡ f.shape c
  shape_there c ne = by moved
    where
      by : Moves R.new g a bk q out.says f f3 → f3.shape c ≡ f.shape c
      by (Still s other) = ap (λ (z : ℕ → Shape). z c) s.shape
      by (Saw x j is on d s shape shape_of making told seen) = ap (λ (z : ℕ → Shape). z c) shape
      by (Posted x j at new size attr is on d s told seen making shape shape_of) = ap (λ (z : ℕ → Shape). z c) shape ∙ put_there f.shape bk (f.becomes a) c ne
      by (Created x j child is on d s told seen shape shape_of) = ap (λ (z : ℕ → Shape). z c) shape ∙ put_there f.shape bk R.new c ne

  -- a record of which the head was kept
  kept_here : (now : Head) → is_marked now.version.content ≡ false → Kept (head_at (m.brick bk).records g) now → f.shape bk ≡ head_shape now
  kept_here now clear k = h.here bk k.head below k.is (ap is_marked (sym k.version) ∙ clear) ∙ sym k.shape

  module _ (runs : Runs n k' (work ++ locks) v.core) where
    posted_here : (x : Gfid) (j at new size : ℕ) (attr : Option Attr) → q ≡ PostOp x j at new size attr → x.0 ≡ g → is_done out.says ≡ true → (now : Head) → is_marked now.version.content ≡ false → head_at out.brick.records g ≡ Some now → f.becomes a ≡ head_shape now
    posted_here x j at new size attr is on d now clear e = by (is_marked at) refl
      where
        o : (old : Head) × (head_at (m.brick bk).records g ≡ Some old) × (now ≡ committed new size attr old)
        o = executed_posted (m.brick bk) (failing failed version) g now msg.client msg.no x j at new size attr on
            (subst (λ (z : Request). is_done (executed (m.brick bk) (failing failed version) msg.client msg.no z).says ≡ true) is (ap (λ (z : Out). is_done z.says) (sym went) ∙ d))
            (subst (λ (z : Request). head_at (executed (m.brick bk) (failing failed version) msg.client msg.no z).brick.records g ≡ Some now) is (ap (λ (z : Out). head_at z.brick.records g) (sym went) ∙ e))

        body : msg.body ≡ ToBrick (PostOp x j at new size attr)
        body = may.at.body ∙ ap (λ (z : Request). ToBrick z) is

        told : ToldPostOp n k' g m.said v.of v.core a bk at new
        told = r.shown.asked msg.no msg (PostOp x j at new size attr) said body on

        on_it : (x.0 == g) ≡ true
        on_it = subst (λ (z : ℕ). (x.0 == z) ≡ true) on (itself x.0)

        act : (t : Bool) → is_marked at ≡ t → work ≡ cond t (Sink_post a bk) (Post a bk) ∷ []
        act t mark = ap (λ (z : Request). acts_worked g a bk (counted v.core a (exclusive g Inode (m.brick bk).asks)) z out.says) is
            ∙ (ap (λ (u : Bool). cond u (cond (x.0 == g) (cond (is_marked at) (Sink_post a bk) (Post a bk) ∷ []) []) (cond (is_shown out.says) [] [])) d
            ∙ (ap (λ (u : Bool). cond u (cond (is_marked at) (Sink_post a bk) (Post a bk) ∷ []) []) on_it
            ∙ ap (λ (u : Bool). cond u (Sink_post a bk) (Post a bk) ∷ []) mark))

        by : (t : Bool) → is_marked at ≡ t → f.becomes a ≡ head_shape now
        by true mark = absurd (let z = sym clear ∙ (ap (λ (y : Head). is_marked y.version.content) o.2 ∙ (told.mark ∙ mark)) in cc)
        by false mark =
            let guard = (subst (λ (es : List Act). Runs n k' (es ++ locks) v.core) (act false mark) runs).0 in
            let there = subst (λ (s : State). s.present bk ≡ true) (sym h.heads) guard.1.0 in
            let at_base = subst (λ (s : State). s.version bk ≡ (s.ballot a).base) (sym h.heads) guard.1.1 in
            let plain = subst (λ (s : State). s.marked bk ≡ false) (sym h.heads) guard.1.2 in
            let number = subst (λ (s : State). 0 < (s.ballot a).number) (sym h.heads) guard.2.number in
            let real = subst (λ (s : State). s.old a ≡ false) (sym h.heads) guard.2.real in
            let is_head = subst (λ (z : Option Head). IsHead z v.core bk) o.1 (r.linked.heads bk below) in
            let old_clear = sym is_head.2 ∙ guard.1.2 in
            let shape = h.here bk o.0 below o.1 old_clear in
            let took = sym (both.here_is a bk number real there plain at_base) ∙ shape in
            let posts = h.posts msg.no msg x j at new size attr said body on in
            posts.1 ∙ (ap (λ (z : Shape). posted_shape size attr z.attr) took ∙ ap head_shape (sym o.2))

    pub here_then : (now : Head) → is_marked now.version.content ≡ false → head_at out.brick.records g ≡ Some now → f3.shape bk ≡ head_shape now
    here_then now clear e = by moved
      where
        now_at : head_at (executed (m.brick bk) (failing failed version) msg.client msg.no q).brick.records g ≡ Some now
        now_at = ap (λ (z : Out). head_at z.brick.records g) (sym went) ∙ e

        kept : is_special g q out.says ≡ false → f.shape bk ≡ head_shape now
        kept other = kept_here now clear (executed_kept (m.brick bk) (failing failed version) g now msg.client msg.no q (ap (λ (z : Out). is_special g q z.says) (sym went) ∙ other) unmarked now_at)

        by : Moves R.new g a bk q out.says f f3 → f3.shape bk ≡ head_shape now
        by (Still s other) = ap (λ (z : ℕ → Shape). z bk) s.shape ∙ kept other
        by (Saw x j is on d s shape shape_of making told seen) = ap (λ (z : ℕ → Shape). z bk) shape ∙ kept (ap (λ (t : Bool). t && (is_post_on g q || is_make_of g q)) d)
        by (Posted x j at new size attr is on d s told seen making shape shape_of) = ap (λ (z : ℕ → Shape). z bk) shape ∙ (put_here f.shape bk (f.becomes a) bk refl ∙ posted_here x j at new size attr is on d now clear e)
        by (Created x j child is on d s told seen shape shape_of) =
            let made = executed_made (m.brick bk) (failing failed version) g now msg.client msg.no x j child on
            (subst (λ (z : Request). is_done (executed (m.brick bk) (failing failed version) msg.client msg.no z).says ≡ true) is (ap (λ (z : Out). is_done z.says) (sym went) ∙ d))
            (subst (λ (z : Request). head_at (executed (m.brick bk) (failing failed version) msg.client msg.no z).brick.records g ≡ Some now) is now_at) in
            ap (λ (z : ℕ → Shape). z bk) shape ∙ (put_here f.shape bk R.new bk refl ∙ (subst (ChildFits R plans g) is fitting on ∙ ap head_shape (sym made)))

    pub heres : (c : ℕ) (now : Head) → c < geometry.n → head_at ((executed_as m msg out).brick c).records g ≡ Some now → is_marked now.version.content ≡ false → f3.shape c ≡ head_shape now
    heres c now lt e clear = either (c == bk) refl
      where
        either : (t : Bool) → (c == bk) ≡ t → f3.shape c ≡ head_shape now
        either true z = let same = equal c bk z in subst (λ (y : ℕ). f3.shape y ≡ head_shape now) (sym same) (here_then now clear (ap (λ (s : Brick). head_at s.records g) (sym (put_here m.brick bk out.brick c (sym same))) ∙ e))
        either false z = let ne = differ c bk z in shape_there c ne ∙ h.here c now lt (ap (λ (s : Brick). head_at s.records g) (sym (put_there m.brick bk out.brick c ne)) ∙ e) clear

  -- ## Children

  first_of : (x : Gfid) (j : ℕ) (child : Child) → q ≡ Make x j child → child.gfid.0 ≡ g → first ≤ g
  first_of x j child is on = let o = r.by_maker i msg (Make x j child) may.at.said (may.at.body ∙ ap (λ (z : Request). ToBrick z) is) on in new_gfid _ o.maker_is

  pub made_then : first ≤ g → f3.heads.making ≡ true → f3.shape_of 0 ≡ R.new
  made_then le making = by moved
    where
      old : f.heads.making ≡ true → f.shape_of 0 ≡ R.new
      old e = h.made le (ap (λ (s : State). s.making) (sym h.heads) ∙ e)

      by : Moves R.new g a bk q out.says f f3 → f3.shape_of 0 ≡ R.new
      by (Still s other) = ap (λ (z : ℕ → Shape). z 0) s.shape_of ∙ old (sym s.making ∙ making)
      by (Saw x j is on d s shape shape_of same told seen) = ap (λ (z : ℕ → Shape). z 0) shape_of ∙ old (sym same ∙ making)
      by (Posted x j at new size attr is on d s told seen same shape shape_of) =
          let t = r.shown.asked msg.no msg (PostOp x j at new size attr) said (may.at.body ∙ ap (λ (z : Request). ToBrick z) is) on in
          let number = subst (λ (s : State). 0 < (s.ballot a).number) (sym h.heads) t.ballot in
          ap (λ (z : ℕ → Shape). z 0) shape_of ∙ (put_there f.shape_of (target (f.heads.ballot a)) (f.becomes a) 0 (λ e. omega (arith, e, number)) ∙ old (sym same ∙ making))
      by (Created x j child is on d s told seen shape shape_of) = shape_of 0 ∙ pick f.heads.making refl
        where
          pick : (t : Bool) → f.heads.making ≡ t → cond (f.heads.making || not (0 == 0)) (f.shape_of 0) R.new ≡ R.new
          pick true e = ap (λ (t : Bool). cond (t || not (0 == 0)) (f.shape_of 0) R.new) e ∙ old e
          pick false e = ap (λ (t : Bool). cond (t || not (0 == 0)) (f.shape_of 0) R.new) e

  -- ## What was told

  -- what another message of the turn was told stays
  looks : (j : ℕ) (x : Message) (y : Gfid) (l : ℕ) → m.said j ≡ Some x → m.flying j ≡ false → x.body ≡ ToBrick (Query y l) → y.0 ≡ g → (f3.heads.seen (v.of j) x.brick ≡ f.heads.seen (v.of j) x.brick) × (f3.told (v.of j) x.brick ≡ f.told (v.of j) x.brick)
  looks j x y l is landed body on = by moved
    where
      apart : (z : Gfid) (w : ℕ) → q ≡ Query z w → z.0 ≡ g → v.of j ≡ a → x.brick ≡ bk → ⊥
      apart z w same on' turn brick =
          let names = (subst (λ (u : Request). IsSound g m.said v.of v.core.moment msg.call msg.brick msg.no u) same (r.known.sound msg.no msg q said may.at.body) on').0 in
          let one = r.once.queries j msg.no bk a names.begun
          (record { message = x; request = Query y l; is = is; brick = brick; body = body; on = ap (λ (u : ℕ). Some u) on; passes = refl; turn = turn })
          (record { message = msg; request = Query z w; is = said; brick = refl; body = may.at.body ∙ ap (λ (u : Request). ToBrick u) same; on = ap (λ (u : ℕ). Some u) on'; passes = refl; turn = refl }) in
          let flies = ap m.flying (one ∙ no) ∙ may.at.flying in
          absurd (let u = sym landed ∙ flies in cc)

      by : Moves R.new g a bk q out.says f f3 → (f3.heads.seen (v.of j) x.brick ≡ f.heads.seen (v.of j) x.brick) × (f3.told (v.of j) x.brick ≡ f.told (v.of j) x.brick)
      by (Still s other) = (ap (λ (z : ℕ → ℕ → Option Seen). z (v.of j) x.brick) s.seen, ap (λ (z : ℕ → ℕ → Shape). z (v.of j) x.brick) s.told)
      by (Saw z w same on' d s shape shape_of making told seen) = (
        ap (λ (u : ℕ → ℕ → Option Seen). u (v.of j) x.brick) seen ∙ put2_there f.heads.seen a bk (Some (head f.heads bk)) (v.of j) x.brick (apart z w same on'),
        ap (λ (u : ℕ → ℕ → Shape). u (v.of j) x.brick) told ∙ put2_there f.told a bk (f.shape bk) (v.of j) x.brick (apart z w same on'),
      )
      by (Posted z w at new size attr same on' d s told seen making shape shape_of) = (ap (λ (u : ℕ → ℕ → Option Seen). u (v.of j) x.brick) seen, ap (λ (u : ℕ → ℕ → Shape). u (v.of j) x.brick) told)
      by (Created z w child same on' d s told seen shape shape_of) = (ap (λ (u : ℕ → ℕ → Option Seen). u (v.of j) x.brick) seen, ap (λ (u : ℕ → ℕ → Shape). u (v.of j) x.brick) told)

  abbrev pub m3 : Net
  m3 = executed_as m msg out

  abbrev Old : ℕ → Reply → Type 0
  Old = IsShape g m.said m.flying v.of f.heads f.told

  abbrev pub Now : ℕ → Reply → Type 0
  Now = IsShape g m.said m3.flying v.of f3.heads f3.told

  pub later : (j : ℕ) (reply : Reply) → Old j reply → Now j reply
  later = is_shape_later g m.said m.said m.flying m3.flying v.of v.of f.heads f3.heads f.told f3.told (λ j x is landed. (is, landed_still m.flying msg.no j landed, refl)) looks

  -- the reply of the brick
  own : (reply : Reply) → Replies out.says (Some reply) → Now msg.no reply
  own reply replies = record { message = msg; is = said; landed = put_here m.flying msg.no false msg.no refl; at = λ z body. subst (λ (y : Request). TellsShape g f3.heads f3.told a bk y reply) (request_is q z (sym may.at.body ∙ body)) (by q refl reply replies) }
    where
      by : (z : Request) → q ≡ z → (reply : Reply) → Replies out.says (Some reply) → TellsShape g f3.heads f3.told a bk z reply
      by (Query x l) is (HeadIs y) replies = λ on. tells on moved
        where
          o : ((executed (m.brick bk) (failing failed version) msg.client msg.no (Query x l)).says ≡ Is (HeadIs y)) × (head_at (m.brick bk).records x.0 ≡ Some y) × (holds (m.brick bk).asks l x Inode Shared ≡ true)
          o = says_head (m.brick bk) (failing failed version) msg.client msg.no x l y (subst (λ (z : Request). Replies (executed (m.brick bk) (failing failed version) msg.client msg.no z).says (Some (HeadIs y))) is (subst (λ (z : Out). Replies z.says (Some (HeadIs y))) went replies))

          -- a turn sees nothing there but by this message
          unseen : x.0 ≡ g → f.heads.seen a bk ≡ None
          unseen on = ap (λ (s : State). s.seen a bk) h.heads ∙ none_of (v.core.seen a bk) (λ some.
              let names = (subst (λ (u : Request). IsSound g m.said v.of v.core.moment msg.call msg.brick msg.no u) is (r.known.sound msg.no msg q said may.at.body) on).0 in
              let landed = r.once.seen a bk names.begun some in
              let one = r.once.queries landed.number msg.no bk a names.begun landed.asked (record { message = msg; request = Query x l; is = said; brick = refl; body = may.at.body ∙ ap (λ (u : Request). ToBrick u) is; on = ap (λ (u : ℕ). Some u) on; passes = refl; turn = refl }) in
              let flies = ap m.flying (one ∙ no) ∙ may.at.flying in
              absurd (let u = sym landed.landed ∙ flies in cc))

          tells : x.0 ≡ g → Moves R.new g a bk q out.says f f3 → (f3.heads.seen a bk ≡ None) ⊎ (is_marked y.version.content ≡ false → f3.told a bk ≡ head_shape y)
          tells on (Still s other) = inl (ap (λ (z : ℕ → ℕ → Option Seen). z a bk) s.seen ∙ unseen on)
          tells on (Saw z w same on' d s shape shape_of making told seen) = inr (λ clear. ap (λ (z : ℕ → ℕ → Shape). z a bk) told ∙ (put2_here f.told a bk (f.shape bk) ∙ h.here bk y below (ap (head_at (m.brick bk).records) (sym on) ∙ o.1) clear))
          tells on (Posted z w at new size attr same on' d s told seen making shape shape_of) = absurd (let u = sym is ∙ same in cc)
          tells on (Created z w child same on' d s told seen shape shape_of) = absurd (let u = sym is ∙ same in cc)
      by z is reply replies = tt

  -- an ask tells nothing of shapes
  ask_told : (s : Asking) → IsAskOf m bk s → (reply : Reply) → Now s.number reply
  ask_told s is reply = record { message = is.message; is = is.said; landed = landed_still m.flying msg.no s.number is.landed; at = λ z body. by z (request_is z (Ask s.gfid s.domain s.kind) (sym body ∙ is.body)) }
    where
      by : (z : Request) → z ≡ Ask s.gfid s.domain s.kind → TellsShape g f3.heads f3.told (v.of s.number) is.message.brick z reply
      by z e = subst (λ (y : Request). TellsShape g f3.heads f3.told (v.of s.number) is.message.brick y reply) (sym e) tt

  pub owed_then : OwedAre Now m3.owed
  owed_then = owed_both Now (own_owed msg out.says) (let_in_owed m bk out) (own_are Now msg out.says own) (subst (λ (o : Out). OwedAre Now (let_in_owed m bk o)) (sym went) (lets_in_are Now m bk ask_told (m.brick bk) (failing failed version) msg.client msg.no q (r.locks.asks bk below)))

  -- ## What its deeds owe

  -- a record is made with the first shape
  create_owes : (x : Gfid) (j : ℕ) (child : Child) → q ≡ Make x j child → child.gfid.0 ≡ g → (f1 : File P V C U Shape) → Same f f1 → (f1.heads.making ≡ false) ⊎ (R.new ≡ f1.shape_of 0)
  create_owes x j child is on f1 same = by f1.heads.making refl
    where
      by : (t : Bool) → f1.heads.making ≡ t → (f1.heads.making ≡ false) ⊎ (R.new ≡ f1.shape_of 0)
      by false e = inl e
      by true e = inr (sym (ap (λ (z : ℕ → Shape). z 0) same.shape_of ∙ h.made (first_of x j child is on) (ap (λ (s : State). s.making) (sym h.heads) ∙ (sym same.making ∙ e))))

  work_owes : (es : List Act) → Works g a bk q out.says es → (f1 : File P V C U Shape) → Same f f1 → AllOweShape R.form n k' (map (dressed R plans n k' g) es) f1
  work_owes es (Calmly calm other) f1 same = calm_owe R plans n k' g es f1 calm
  work_owes es (Sees x j is on d e) f1 same = subst (λ (xs : List Act). AllOweShape R.form n k' (map (dressed R plans n k' g) xs) f1) (sym e) (tt, tt)
  work_owes es (Posts x j at new size attr is on d e) f1 same = subst (λ (xs : List Act). AllOweShape R.form n k' (map (dressed R plans n k' g) xs) f1) (sym e) (by (is_marked at))
    where
      by : (t : Bool) → AllOweShape R.form n k' (map (dressed R plans n k' g) (cond t (Sink_post a bk) (Post a bk) ∷ [])) f1
      by true = (tt, tt)
      by false = (tt, tt)
  work_owes es (Makes x j child is on d e) f1 same = subst (λ (xs : List Act). AllOweShape R.form n k' (map (dressed R plans n k' g) xs) f1) (sym e) (create_owes x j child is on f1 same, tt)

  pub owes_executed : AllOweShape R.form n k' (deeds_of_request R plans n k' g m v f msg (ToBrick q) version failed ++ map (dressed R plans n k' g) (work ++ locks)) f
  owes_executed =
      let ds = deeds_of_request R plans n k' g m v f msg (ToBrick q) version failed in
      let f1 = after_deeds R.form n k' ds f in
      owe_both R.form n k' ds (map (dressed R plans n k' g) (work ++ locks)) f (request_owe R plans n k' g f m v msg (ToBrick q) version failed)
      (subst (λ (xs : List (Deed P V C U Shape)). AllOweShape R.form n k' xs f1) (sym (map-append (dressed R plans n k' g) work locks))
      (owe_both R.form n k' (map (dressed R plans n k' g) work) (map (dressed R plans n k' g) locks) f1
      (work_owes work (works g a bk out.says (counted v.core a (exclusive g Inode (m.brick bk).asks)) q unmarked) f1 (request_keeps R plans n k' g f m v msg (ToBrick q) version failed).0)
      (calm_owe R plans n k' g locks (after_deeds R.form n k' (map (dressed R plans n k' g) work) f1) (calm_locks g m v bk (m.brick bk).asks out.brick.asks))))

-- A brick that gives chunks gives them to the machine too: where the turn did its PreOp there on an unmarked record, and has planned
-- nothing yet.
use Rattle.std.proofs.Common.{◌≡◌, ◌<◌, ◌≤◌, ◌+◌, ◌^◌, ℕ, Bool, true, false, not, cond, ◌==◌, ◌&&◌, ◌||◌, Option, Some, List, [], ◌∷◌, ◌++◌, length, map, refl, sym, ◌∙◌, ap, subst, inr, arith}
use Rattle.std.specs.Prelude.{nat_lt, slice_index}
use Rattle.std.specs.Option.{option_map}
use Rattle.std.proofs.lemmas.Bool.Decides.{nat_tests}
use Rattle.ec_attr.specs.declared.geometry.Geometry.{Geometry}
use Rattle.ec_attr.specs.declared.gfid.Gfid.{Gfid}
use Rattle.ec_attr.specs.declared.head.Head.{Head}
use Rattle.ec_store.specs.Records.{Record}
use Rattle.ec_brick.specs.Replies.{AreChunks, Replies, Says, ShowsChunks}
use Rattle.ec_brick.specs.Step.{Out, executed as executed_at, quiet as quiet_out}
use Rattle.ec_conduct.specs.Account.{gfid_of}
use Rattle.ec_conduct.specs.Done.{is_post}
use Rattle.ec_conduct.specs.Given.{quorum}
use Rattle.ec_field.specs.Code.{chunk_at}
use Rattle.ec_history.specs.IsRun.{MayExecute, is_fault}
use Rattle.ec_history.specs.Run.{Net, failing, out_of}
use Rattle.ec_history.specs.Story.{is_among, is_done}
use Rattle.ec_wire.specs.declared.entry.Entry.TheVariants.{Executed}
use Rattle.ec_wire.specs.declared.message.Body.{Body}
use Rattle.ec_wire.specs.declared.message.Body.TheVariants.{ToBrick}
use Rattle.ec_wire.specs.declared.message.Message.{Message}
use Rattle.ec_wire.specs.declared.reply.Reply.{Reply}
use Rattle.ec_wire.specs.declared.reply.Reply.TheVariants.{Chunks}
use Rattle.ec_wire.specs.declared.request.Request.{Request}
use Rattle.ec_wire.specs.declared.request.Request.TheVariants.{PostOp, ReadChunks}
use Rattle.ec_law_base.specs.State.{State}
use Rattle.ec_law_ballots.specs.Act.{Act}
use Rattle.ec_law_ballots.specs.Guard.{Runs}
use Rattle.ec_law_pieces.specs.Deed.{Deed, after as after_deeds, step}
use Rattle.ec_law_pieces.specs.Deed.Deed.{Read}
use Rattle.ec_law_pieces.specs.File.{File}
use Rattle.ec_law_quorum.specs.Wide.{Inv}
use Rattle.ec_law_net.specs.Grants.{AsksIn, LocksStand}
use Rattle.ec_law_net.specs.Link.{IsHead, Linked}
use Rattle.ec_law_net.specs.Turns.{View, acts}
use Rattle.ec_law_turns.specs.Once.{Once}
use Rattle.ec_law_turns.proofs.Basics.{some_is}
use Rattle.ec_law_turns.proofs.Tracks.{request_is}
use Rattle.ec_law_data.specs.Deeds.{deeds_executed, deeds_of_request, dressed, file_after, is_at_base, is_post_on, shows}
use Rattle.ec_law_data.specs.Forms.{Coder, Piece, Shape, piece_of, stripes_read}
use Rattle.ec_law_data.specs.Link.{HasPieces}
use Rattle.ec_law_reads.specs.Units.{of_units}
use Rattle.ec_law_data.specs.Reading.{Plans, Reading}
use Rattle.ec_law_reads.proofs.Fences.{IsShown, shown_read}
use Rattle.ec_law_reads.proofs.Leading.{IsBeside, Leads, enough, most, reads_held}
use Rattle.ec_law_reads.proofs.Staying.{Stays, StaysYet, acts_stay}

-- what a turn was given, and what stays
pub record Given (f : File ℕ (List (List ℕ)) Piece ℕ Shape) (a b s : ℕ) (chunk : List ℕ) : Type 0 where
  pub bytes : ℕ → Option ℕ
  pub stays : Stays f a b s (piece_of bytes)
  pub told : (i u : ℕ) → i < 512 → bytes i ≡ Some u → slice_index chunk i ≡ u

abbrev pub GivenYet : File ℕ (List (List ℕ)) Piece ℕ Shape → ℕ → ℕ → ℕ → List ℕ → Type 0
GivenYet f a b s chunk = f.planned a ≡ false → Given f a b s chunk

pub given_later : (f f' : File ℕ (List (List ℕ)) Piece ℕ Shape) → Leads f f' → (a b s : ℕ) (chunk : List ℕ) → GivenYet f a b s chunk → GivenYet f' a b s chunk
given_later f f' leads a b s chunk h free =
    let o = h (leads.free a free) in
    record { bytes = o.bytes; stays = leads.stays a b s (piece_of o.bytes) (λ z. o.stays) free; told = o.told }

-- the chunks of a reply, one after the other
abbrev pub AllGiven : File ℕ (List (List ℕ)) Piece ℕ Shape → ℕ → ℕ → ℕ → List (List ℕ) → Type 0
AllGiven f a b first chunks = (j : ℕ) → j < length chunks → GivenYet f a b (first + j) (chunk_at chunks j)

-- What a reply with chunks tells of a read that was sent after the PreOp of its turn was done there; `late` says of which this is so.
abbrev pub IsRead : ℕ → (ℕ → Option Message) → (ℕ → ℕ) → (ℕ → Bool) → File ℕ (List (List ℕ)) Piece ℕ Shape → ℕ → Reply → Type 0
IsRead g said of late f re reply = (x : Message) (y : Gfid) (n first count : ℕ) (chunks : List (List ℕ)) → said re ≡ Some x → x.body ≡ ToBrick (ReadChunks y n first count) → y.0 ≡ g → reply ≡ Chunks chunks → late re ≡ true → AllGiven f (of re) x.brick first chunks

post_on : (g : ℕ) (q : Request) → is_post q ≡ true → gfid_of q ≡ Some g → is_post_on g q ≡ true
post_on g (PostOp x n at version size attr) e on = same x.0 g (some_is x.0 g on)
  where
    same : (x y : ℕ) → x ≡ y → (x == y) ≡ true
    same x y e = grind (arith, nat_tests)
post_on g q e on = absurd (cc)

or_right : (t u : Bool) → u ≡ true → (t || u) ≡ true
or_right true u e = refl
or_right false u e = e

stands_there : (p t : Bool) (v w x : ℕ) → p ≡ true → t ≡ false → v ≡ w → 0 < x → (p && not t && (v == w) && nat_lt 0 x) ≡ true
stands_there p t v w x e f h i = rw (e, f, h) (grind (arith, nat_tests))

module _ (unit : List (List ℕ) → ℕ → ℕ) (kk : ℕ) (coder : Coder) (plans : Plans ℕ (List (List ℕ)) ℕ Shape) (geometry : Geometry) (g : ℕ) (m : Net) (v : View) (linked : Linked geometry.n g m v) (locks : LocksStand geometry.n g m v) (asks : (i j b a : ℕ) → AsksIn g m v i b a → AsksIn g m v j b a → i ≡ j) (f : File ℕ (List (List ℕ)) Piece ℕ Shape) (known : IsBeside (of_units unit kk coder) geometry.n (quorum geometry) g m v f) (once : Once g m.said m.flying v.of v.core) (pieces : HasPieces (of_units unit kk coder) geometry.n g m f) where
  abbrev R : Reading ℕ (List (List ℕ)) Piece ℕ Shape
  R = of_units unit kk coder

  -- a turn that has planned nothing has no PostOp
  unposted : (a b : ℕ) → 2 ^ 61 ≤ a → f.planned a ≡ false → v.core.post a b ≡ false
  unposted a b le free = by (v.core.post a b) refl
    where
      by : (t : Bool) → v.core.post a b ≡ t → t ≡ false
      by false e = refl
      by true e =
          let l = (once.post a b le e) in
          let o = l.asked in
          absurd (let z = sym (known.planned l.number o.message o.request o.is o.body (or_right (R.is_write g o.request) (is_post_on g o.request) (post_on g o.request o.passes o.on))) ∙ (ap f.planned o.turn ∙ free) in cc)

  at_base : (a b : ℕ) → b < geometry.n → 2 ^ 61 ≤ a → v.core.holder b ≡ Some a → v.core.pre a b ≡ true → f.planned a ≡ false → (held : Record) → (m.brick b).records g ≡ Some held → is_at_base f.heads a b ≡ true
  at_base a b lt le holder pre free held there =
      let local = known.inv.local b in
      let present = (subst (λ (o : Option Head). IsHead o v.core b) (ap (option_map (λ r. r.head)) there) (linked.heads b lt)).0 in
      let still = local.still_pre a holder pre (unposted a b le free) present in
      subst (λ (s : State). is_at_base s a b ≡ true) (sym known.heads)
      (stands_there (v.core.present b) (v.core.marked b) (v.core.version b) (v.core.ballot a).base (v.core.ballot a).number present still.1 still.0 (local.pre_seen a pre).1)

  -- after the deed of a read, and the acts of its entry
  after_read : (a b : ℕ) (places : ℕ → Bool) (ds : List (Deed ℕ (List (List ℕ)) Piece ℕ Shape)) (es : List Act) → ds ≡ Read a b places ∷ [] → Runs geometry.n (quorum geometry) es v.core → (s : ℕ) → places s ≡ true → v.core.pre a b ≡ true → StaysYet (after_deeds R.form geometry.n (quorum geometry) (ds ++ map (dressed R plans geometry.n (quorum geometry) g) es) f) a b s (f.piece b s)
  after_read a b places ds es is runs s reads pre =
      subst (λ (z : List (Deed ℕ (List (List ℕ)) Piece ℕ Shape)). StaysYet (after_deeds R.form geometry.n (quorum geometry) (z ++ map (dressed R plans geometry.n (quorum geometry) g) es) f) a b s (f.piece b s)) (sym is)
      (acts_stay R plans geometry.n (quorum geometry) g (most unit kk coder plans geometry g m v linked locks asks f known) (enough unit kk coder plans geometry g m v linked locks asks f known) es (step R.form geometry.n (quorum geometry) f (Read a b places))
      (subst (Inv geometry.n (quorum geometry)) (sym known.heads) known.inv)
      (subst (Runs geometry.n (quorum geometry) es) (sym known.heads) runs)
      a b s (f.piece b s) (λ free. record { pre = ap (λ (z : State). z.pre a b) known.heads ∙ pre; got = here (a == a) (b == b) (places s) (self a) (self b) reads; there = λ z. refl }))
    where
      self : (x : ℕ) → (x == x) ≡ true
      self x = grind (arith, nat_tests)

      here : (t u w : Bool) → t ≡ true → u ≡ true → w ≡ true → cond (t && u && w) (Some (f.piece b s)) (f.got a b s) ≡ Some (f.piece b s)
      here true true true d e h = refl
      here false u w d e h = absurd (cc)
      here true false w d e h = absurd (cc)
      here true true false d e h = absurd (cc)

  module _ (late : ℕ → Bool) (sure : (i : ℕ) (x : Message) → m.said i ≡ Some x → late i ≡ true → v.core.pre (v.of i) x.brick ≡ true) (i : ℕ) (version : Option ℕ) (failed : Bool) (leads : Leads f (file_after (of_units unit kk coder) plans geometry.n (quorum geometry) g m v f (Executed i version failed))) (runs : Runs geometry.n (quorum geometry) (acts g m v (Executed i version failed)) v.core) where
    pick : (says : Says) (p : ℕ → ℕ → Option ℕ) (first count : ℕ) → says ≡ ShowsChunks p first count → (t u : Bool) → t ≡ true → u ≡ true → (xs ys : List (Deed ℕ (List (List ℕ)) Piece ℕ Shape)) → cond (is_done says) xs (cond (shows says && t && u) ys []) ≡ ys
    pick says p first count e t u h w xs ys = rw (e, h, w) refl

    among : (first count j : ℕ) → j < count → is_among first count (first + j) ≡ true
    among first count j less = grind (arith, nat_tests)

    same_number : (x y : ℕ) → x ≡ y → (x == y) ≡ true
    same_number x y e = grind (arith, nat_tests)

    -- an answer to a read
    answers : (msg : Message) (x : Gfid) (n first count : ℕ) → m.said i ≡ Some msg → msg.body ≡ ToBrick (ReadChunks x n first count) → (m.brick msg.brick).up ≡ true → failed ≡ is_fault (out_of m msg (ReadChunks x n first count) version failed).says → x.0 ≡ g → late i ≡ true → (chunks : List (List ℕ)) → Replies (out_of m msg (ReadChunks x n first count) version failed).says (Some (Chunks chunks)) → AllGiven (file_after (of_units unit kk coder) plans geometry.n (quorum geometry) g m v f (Executed i version failed)) (v.of i) msg.brick first chunks
    answers msg x n first count said body up fault on so chunks replies j less free = record {
      bytes = held.piece (first + j);
      stays = subst (λ (y : Piece). Stays (file_after (of_units unit kk coder) plans geometry.n (quorum geometry) g m v f (Executed i version failed)) (v.of i) msg.brick (first + j) y) (pieces msg.brick held lt there (first + j))
          (after_read (v.of i) msg.brick (stripes_read (ReadChunks x n first count)) (deeds_executed (of_units unit kk coder) plans geometry.n (quorum geometry) g m v f (m.said i) version failed) (acts g m v (Executed i version failed)) is_deed runs (first + j) (among first count j within) pre free);
      told = λ p u l e. are.each j p u within l e;
    }
      where
        q : Request
        q = ReadChunks x n first count

        went : out_of m msg (ReadChunks x n first count) version failed ≡ executed_at (m.brick msg.brick) (failing failed version) msg.client msg.no (ReadChunks x n first count)
        went = ap (λ (t : Bool). cond t (executed_at (m.brick msg.brick) (failing failed version) msg.client msg.no (ReadChunks x n first count)) (quiet_out (m.brick msg.brick))) up

        is : IsShown (m.brick msg.brick) x n first count (executed_at (m.brick msg.brick) (failing failed version) msg.client msg.no (ReadChunks x n first count)).says
        is = shown_read (m.brick msg.brick) x n first count (failing failed version) msg.client msg.no (inr (chunks, subst (λ (o : Out). Replies o.says (Some (Chunks chunks))) went replies))

        held : Record
        held = is.held

        says_is : (out_of m msg (ReadChunks x n first count) version failed).says ≡ ShowsChunks is.held.piece first count
        says_is = ap (λ (o : Out). o.says) went ∙ is.says_is

        fine : failed ≡ false
        fine = fault ∙ ap is_fault says_is

        are : AreChunks is.held.piece first count chunks
        are = subst (λ (z : Says). Replies z (Some (Chunks chunks))) says_is replies

        within : j < count
        within = subst (λ (z : ℕ). j < z) are.many less

        lt : msg.brick < geometry.n
        lt = linked.to i msg (ReadChunks x n first count) said body

        there : (m.brick msg.brick).records g ≡ Some is.held
        there = subst (λ (z : ℕ). (m.brick msg.brick).records z ≡ Some is.held) on is.there

        pre : v.core.pre (v.of i) msg.brick ≡ true
        pre = sure i msg said so

        begun : 2 ^ 61 ≤ v.of i
        begun = (known.named i msg (ReadChunks x n first count) said body (inr (same_number x.0 g on))).2.begun

        base : is_at_base f.heads (v.of i) msg.brick ≡ true
        base = at_base (v.of i) msg.brick lt begun (reads_held unit kk coder plans geometry g m v linked locks asks f known i msg x n first count said body on is.granted pre) pre (leads.free (v.of i) free) is.held there

        number : msg.no ≡ i
        number = (linked.said i msg said).0

        is_deed : deeds_executed (of_units unit kk coder) plans geometry.n (quorum geometry) g m v f (m.said i) version failed ≡ Read (v.of i) msg.brick (stripes_read (ReadChunks x n first count)) ∷ []
        is_deed =
            ap (λ (o : Option Message). deeds_executed (of_units unit kk coder) plans geometry.n (quorum geometry) g m v f o version failed) said
            ∙ (ap (λ (z : Body). deeds_of_request (of_units unit kk coder) plans geometry.n (quorum geometry) g m v f msg z version failed) body
            ∙ (ap (λ (t : Bool). deeds_of_request (of_units unit kk coder) plans geometry.n (quorum geometry) g m v f msg (ToBrick (ReadChunks x n first count)) version t) fine
            ∙ (pick (out_of m msg (ReadChunks x n first count) version false).says is.held.piece first count (subst (λ (t : Bool). (out_of m msg (ReadChunks x n first count) version t).says ≡ ShowsChunks is.held.piece first count) fine says_is) (x.0 == g) (is_at_base f.heads (v.of msg.no) msg.brick) (same_number x.0 g on) (subst (λ (z : ℕ). is_at_base f.heads (v.of z) msg.brick ≡ true) (sym number) base) [] (Read (v.of msg.no) msg.brick (stripes_read (ReadChunks x n first count)) ∷ [])
            ∙ ap (λ (z : ℕ). Read (v.of z) msg.brick (stripes_read (ReadChunks x n first count)) ∷ []) number)))

    -- what the brick says is read by the call as it stands in the machine
    pub own_read : (may : MayExecute m i version failed) (reply : Reply) → Replies (out_of m may.message may.request version failed).says (Some reply) → IsRead g m.said v.of late (file_after (of_units unit kk coder) plans geometry.n (quorum geometry) g m v f (Executed i version failed)) may.message.no reply
    own_read may reply h x y n first count chunks said body on is so =
        let number = (linked.said i may.message may.at.said).0 in
        let same = some_is may.message x (sym may.at.said ∙ (ap m.said (sym number) ∙ said)) in
        let asked = request_is may.request (ReadChunks y n first count) (sym may.at.body ∙ (ap (λ (z : Message). z.body) same ∙ body)) in
        subst (λ (b : ℕ). AllGiven (file_after (of_units unit kk coder) plans geometry.n (quorum geometry) g m v f (Executed i version failed)) (v.of may.message.no) b first chunks) (ap (λ (z : Message). z.brick) same)
        (subst (λ (k : ℕ). AllGiven (file_after (of_units unit kk coder) plans geometry.n (quorum geometry) g m v f (Executed i version failed)) (v.of k) may.message.brick first chunks) (sym number)
        (answers may.message y n first count may.at.said (may.at.body ∙ ap (λ (z : Request). ToBrick z) asked) may.at.up (subst (λ (z : Request). failed ≡ is_fault (out_of m may.message z version failed).says) asked may.fault) on (subst (λ (k : ℕ). late k ≡ true) number so) chunks (subst (λ (z : Reply). Replies (out_of m may.message (ReadChunks y n first count) version failed).says (Some z)) is (subst (λ (z : Request). Replies (out_of m may.message z version failed).says (Some reply)) asked h))))

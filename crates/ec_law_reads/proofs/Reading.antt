-- What a call has read of a stripe, by its account, its turn was given.
use Rattle.std.proofs.Common.{◌≡◌, ◌⊎◌, ◌+◌, ◌-◌, ◌*◌, ◌<◌, ◌≤◌, ℕ, Bool, true, false, not, cond, ◌==◌, ◌&&◌, ◌||◌, Option, Some, None, List, [], ◌∷◌, length, refl, sym, ◌∙◌, ap, subst, inl, inr, arith, ⊎_elim}
use Rattle.std.specs.Prelude.{nat_le, nat_lt}
use Rattle.std.proofs.lemmas.Bool.Decides.{nat_tests}
use Rattle.ec_attr.specs.Marks.{is_marked}
use Rattle.ec_attr.specs.declared.geometry.Geometry.{Geometry}
use Rattle.ec_attr.specs.declared.gfid.Gfid.{Gfid}
use Rattle.ec_conduct.specs.Account.{Account, Exchange, at, gfid_of}
use Rattle.ec_conduct.specs.Done.{chunk_in, chunk_read, did, is_done, is_pre, or_else, since}
use Rattle.ec_conduct.specs.Given.{Given, quorum}
use Rattle.ec_conduct.specs.Group.{is_good}
use Rattle.ec_conduct.specs.Opened.{account}
use Rattle.ec_conduct.specs.Standing.{is_grouped}
use Rattle.ec_field.specs.Code.{chunk_at}
use Rattle.ec_history.specs.Accounts.{Books, Leaving, booked, books}
use Rattle.ec_history.specs.IsRun.{IsRun}
use Rattle.ec_history.specs.Run.{Net, after as net_after, run}
use Rattle.ec_history.specs.Story.{Story, told}
use Rattle.ec_wire.specs.declared.entry.Entry.{Entry}
use Rattle.ec_wire.specs.declared.message.Body.TheVariants.{ToBrick}
use Rattle.ec_wire.specs.declared.reply.Reply.{Reply}
use Rattle.ec_wire.specs.declared.reply.Reply.TheVariants.{Chunks}
use Rattle.ec_wire.specs.declared.request.Request.{Request}
use Rattle.ec_wire.specs.declared.request.Request.TheVariants.{PreOp, ReadChunks}
use Rattle.ec_law_base.specs.State.{Ballot, Head as Seen}
use Rattle.ec_law_ballots.specs.Words.{is_marked_head}
use Rattle.ec_law_net.specs.Turns.{View, seen_after, view}
use Rattle.ec_law_turns.specs.Follows.{All, IsOfTurn}
use Rattle.ec_law_turns.specs.Once.{is_plain_pre}
use Rattle.ec_law_turns.specs.Orderly.{ArePlain}
use Rattle.ec_law_turns.specs.Reached.{Reached}
use Rattle.ec_law_turns.specs.Shown.{HasLearnt, IsOver, IsRaised, heads_in}
use Rattle.ec_law_turns.specs.Told.{PreTold, Saw, Told, ToldPreOp}
use Rattle.ec_law_turns.proofs.Allowed.{account_given}
use Rattle.ec_law_turns.proofs.Basics.{all_map, some_is}
use Rattle.ec_law_turns.proofs.Groups.{unmarked}
use Rattle.ec_law_turns.proofs.Runs.{Kept, kept_there, plain_first}
use Rattle.ec_law_turns.proofs.Windows.{all_both}
use Rattle.ec_law_data.specs.Deeds.{file, file_after}
use Rattle.ec_law_data.specs.Forms.{Coder, Shape, is_chunk_read}
use Rattle.ec_law_reads.specs.Units.{of_units}
use Rattle.ec_law_data.specs.Reading.{Plans}
use Rattle.ec_law_data.proofs.Reaching.{Reaches, gone, reaches_then}
use Rattle.ec_law_reads.specs.Given.{IsGiven}
use Rattle.ec_law_reads.specs.Laws.{HadPieces}
use Rattle.ec_law_reads.proofs.Answered.{FragmentFile, late_after}
use Rattle.ec_law_reads.proofs.Giving.{AllGiven}
use Rattle.ec_law_reads.proofs.Giving.{Given as GivenThere}
use Rattle.ec_law_reads.proofs.Knowing.{IsHeard, ReadsKnown, known_then}
use Rattle.ec_law_reads.proofs.Timing.{Since}

-- ## A log

-- all that is known by its end
pub record ReadsEnd (unit : List (List ℕ) → ℕ → ℕ) (kk : ℕ) (coder : Coder) (geometry : Geometry) (g : ℕ) (m : Net) (v : View) (b : Books) (f : FragmentFile) : Type 0 where
  pub reached : Reached geometry g m v b
  pub late : ℕ → Bool
  pub known : ReadsKnown unit kk coder geometry g m v b f late

module _ (unit : List (List ℕ) → ℕ → ℕ) (kk : ℕ) (coder : Coder) (plans : Plans ℕ (List (List ℕ)) ℕ Shape) (geometry : Geometry) (g : ℕ) (left : ℕ → Leaving) (none : (a : ℕ) → (left a).kept ≡ None) (first : ℕ) (origins : ℕ → ℕ) (new : (h : ℕ) → first ≤ h → origins h ≡ 0) where
  pub reads_end : (es : List Entry) (m : Net) (vs : ℕ → View) (t : Story) (b : Books) (f : FragmentFile) (late : ℕ → Bool) → IsRun geometry.n es m → ArePlain es → Kept geometry left none (books geometry left es m t b) → Reaches geometry first origins m vs t b → ReadsKnown unit kk coder geometry g m (vs g) b f late → HadPieces (of_units unit kk coder) plans geometry.n (quorum geometry) g es m (vs g) f
      → ReadsEnd unit kk coder geometry g (run es m) (view g es m (vs g)) (books geometry left es m t b) (file (of_units unit kk coder) plans geometry.n (quorum geometry) g es m (vs g) f)
  reads_end [] m vs t b f late runs plain kept k known pieces = record { reached = k.reached g; late = late; known = known }
  reads_end (e ∷ es) m vs t b f late runs plain kept k known pieces =
      let p = plain_first e es plain in
      let may = kept_there geometry left none e es m t b runs plain (k.reached g).known.numbers kept in
      reads_end es (net_after m e) (λ h. seen_after h m (vs h) e) (told geometry m t e) (booked geometry left m t b e) (file_after (of_units unit kk coder) plans geometry.n (quorum geometry) g m (vs g) f e) (late_after g (vs g) late e) runs.1 p.1 kept
      (reaches_then geometry left none first origins new m vs t b e p.0 runs.0 may k)
      (known_then unit kk coder plans geometry left g m (vs g) t b (k.reached g) f late known pieces.0 e runs.0 may (gone geometry left none first origins new m vs t b e p.0 runs.0 may k g).runs)
      pieces.1

-- ## A window

first_of : {X : Type 0} (o p : Option X) (x : X) → or_else o p ≡ Some x → (o ≡ Some x) ⊎ (p ≡ Some x)
first_of None p x e = inr e
first_of (Some y) p x e = inl e

did_plain : (es : List Exchange) → All (λ e. is_pre e.request ≡ true → is_plain_pre e.request ≡ true) es → did is_pre es ≡ true → did is_plain_pre es ≡ true
did_plain [] all h = h
did_plain (e ∷ es) all h = by (is_pre e.request) (is_done e.reply) (is_plain_pre e.request) all.0 h (did_plain es all.1)
  where
    by : (t u w : Bool) → (t ≡ true → w ≡ true) → ((t && u) || did is_pre es) ≡ true → (did is_pre es ≡ true → did is_plain_pre es ≡ true) → ((w && u) || did is_plain_pre es) ≡ true
    by true true true plain h later = refl
    by true true false plain h later = absurd (let z = plain refl in cc)
    by true false true plain h later = later h
    by true false false plain h later = later h
    by false u true plain h later = or_right u (did is_plain_pre es) (later h)
      where
        or_right : (t u : Bool) → u ≡ true → ((true && t) || u) ≡ true
        or_right true u e = refl
        or_right false u e = e
    by false u false plain h later = later h

-- a read of the list that came after the PreOp, and gave this chunk
pub record Found (P : Exchange → Type 0) (late : ℕ → Bool) (s : ℕ) (chunk : List ℕ) : Type 0 where
  pub e : Exchange
  pub all : P e
  pub gave : chunk_in s e.request e.reply ≡ Some chunk
  pub so : late e.number ≡ true

module _ (P : Exchange → Type 0) (g : ℕ) (late : ℕ → Bool) (s : ℕ) (chunk : List ℕ) (reads : (e : Exchange) → P e → chunk_in s e.request e.reply ≡ Some chunk → is_chunk_read g e.request ≡ true) where
  found : (es : List Exchange) → All P es → All (λ e. is_pre e.request ≡ true → is_plain_pre e.request ≡ true) es → Since g late es → did is_pre es ≡ true → chunk_read s (since is_pre es) ≡ Some chunk → Found P late s chunk
  found [] all plain times done read = absurd (cc)
  found (e ∷ es) all plain times done read = by (is_pre e.request) refl done read (found es all.1 plain.1 times.1)
    where
      by : (t : Bool) → is_pre e.request ≡ t → ((t && is_done e.reply) || did is_pre es) ≡ true → chunk_read s (cond t [] (e ∷ since is_pre es)) ≡ Some chunk → (did is_pre es ≡ true → chunk_read s (since is_pre es) ≡ Some chunk → Found P late s chunk) → Found P late s chunk
      by true is done read later = absurd (cc)
      by false is done read later = ⊎_elim
          (λ gave. record { e = e; all = all.0; gave = gave; so = times.0 (reads e all.0 gave) (did_plain es plain.1 done) })
          (λ rest. later done rest)
          (first_of (chunk_in s e.request e.reply) (chunk_read s (since is_pre es)) chunk read)

-- the exchange was a read of chunks that have this one
pub record Reads (s : ℕ) (e : Exchange) (chunk : List ℕ) : Type 0 where
  pub gfid : Gfid
  pub grant : ℕ
  pub first : ℕ
  pub count : ℕ
  pub chunks : List (List ℕ)
  pub request : e.request ≡ ReadChunks gfid grant first count
  pub reply : e.reply ≡ Some (Chunks chunks)
  pub place : ℕ
  pub within : place < length chunks
  pub stripe : first + place ≡ s
  pub chunk_is : chunk ≡ chunk_at chunks place

reads_of : (s : ℕ) (e : Exchange) (chunk : List ℕ) (q : Request) (o : Option Reply) → e.request ≡ q → e.reply ≡ o → chunk_in s q o ≡ Some chunk → Reads s e chunk
reads_of s e chunk (ReadChunks x n first count) (Some (Chunks chunks)) is reply gave = by (nat_le first s && nat_lt s (first + length chunks)) refl gave
  where
    by : (t : Bool) → (nat_le first s && nat_lt s (first + length chunks)) ≡ t → cond t (Some (chunk_at chunks (s - first))) None ≡ Some chunk → Reads s e chunk
    by false h gave = absurd (cc)
    by true h gave = record {
      gfid = x;
      grant = n;
      first = first;
      count = count;
      chunks = chunks;
      request = is;
      reply = reply;
      place = s - first;
      within = (let z : (first ≤ s) × (s < first + length chunks) = bounds s first (length chunks) h in let y = z.0 in let w = z.1 in omega (arith, y, w));
      stripe = (let z : (first ≤ s) × (s < first + length chunks) = bounds s first (length chunks) h in let y = z.0 in omega (arith, y));
      chunk_is = sym (some_is (chunk_at chunks (s - first)) chunk gave);
    }
      where
        bounds : (s first count : ℕ) → (nat_le first s && nat_lt s (first + count)) ≡ true → (first ≤ s) × (s < first + count)
        bounds s first count h = (grind (arith, nat_tests), grind (arith, nat_tests))
reads_of s e chunk q o is reply gave = absurd (cc)

-- ## An account

module _ (unit : List (List ℕ) → ℕ → ℕ) (kk : ℕ) (coder : Coder) (geometry : Geometry) (g : ℕ) (m : Net) (v : View) (b : Books) (f : FragmentFile) (end : ReadsEnd unit kk coder geometry g m v b f) (a : ℕ) (given : Given) (is : b.given a ≡ Some given) where
  r : Reached geometry g m v b
  r = end.reached

  abbrev c : Account
  c = account given (b.own a)

  pub geometry_is : (account given (b.own a)).given.geometry ≡ geometry
  geometry_is = ap (λ (y : Given). y.geometry) (account_given given (b.own a)) ∙ (r.known.numbers.given_below a given is).1.geometry_is

  positive : 0 < quorum geometry
  positive = let h = geometry.least in omega (arith, h)

  half : geometry.n < 2 * quorum geometry
  half = let h = geometry.majority in omega (arith, h)

  abbrev Past : ℕ → Exchange → Type 0
  Past x e = IsOfTurn m.said v.turn v.of a x e.number e.request × IsOver g m.said v.of v.core e

  past : (x : ℕ) → All (λ e. IsOfTurn m.said v.turn v.of a x e.number e.request × IsOver g m.said v.of v.core e) (((account given (b.own a)).on g).place x).window
  past x = all_both (λ e. IsOfTurn m.said v.turn v.of a x e.number e.request) (IsOver g m.said v.of v.core) (((account given (b.own a)).on g).place x).window ((r.known.calls a given is).window x) ((r.shown.calls a given is).window x)

  -- a PreOp to a brick of the group named an unmarked version
  plain_pre : (x : ℕ) → is_grouped (account given (b.own a)) g x ≡ true → (e : Exchange) → IsOfTurn m.said v.turn v.of a x e.number e.request × IsOver g m.said v.of v.core e → is_pre e.request ≡ true → is_plain_pre e.request ≡ true
  plain_pre x grouped e p pre = by e.request refl pre
    where
      learnt : HasLearnt geometry g m.said v.turn v.of v.core a (account given (b.own a))
      learnt = r.shown.calls a given is

      told : Told geometry.n (quorum geometry) g m.said v.of v.core (v.of e.number) x e.request
      told = let o = p.0.0 in subst (λ (y : ℕ). Told geometry.n (quorum geometry) g m.said v.of v.core (v.of e.number) y e.request) o.brick (r.shown.asked e.number o.message e.request o.is o.body)

      good : is_good geometry.n (quorum geometry) (heads_in ((account given (b.own a)).on g)) x ≡ true
      good = subst (λ (y : Geometry). is_good y.n (quorum y) (heads_in ((account given (b.own a)).on g)) x ≡ true) geometry_is grouped

      not_true : (t : Bool) → (t ≡ true → ⊥) → not t ≡ true
      not_true true h = absurd (h refl)
      not_true false h = refl

      no_mark : (t : ℕ) → v.turn a ≡ Some t → {d : ℕ} → IsRaised geometry g v.turn v.core a (account given (b.own a)).waits (account given (b.own a)).steps ((account given (b.own a)).on g) d → Saw v.core t x (λ h. is_marked_head h ≡ true) → ⊥
      no_mark t has raised saw =
          let u = unmarked geometry.n (quorum geometry) (heads_in ((account given (b.own a)).on g)) geometry.bricks positive half x good in
          let same_turn = some_is raised.t t (sym raised.has ∙ has) in
          let seen = subst (λ (z : ℕ). v.core.seen z x ≡ Some _) same_turn (raised.seen x u.0 u.1) in
          let same = some_is saw.head _ (sym saw.seen ∙ seen) in
          let z = sym (ap (λ (h : Seen). is_marked_head (Some h)) same) ∙ saw.so in
          let w = sym z ∙ u.2 in cc

      by : (q : Request) → e.request ≡ q → is_pre q ≡ true → is_plain_pre q ≡ true
      by (PreOp y n at dirty) same h =
          let on = some_is y.0 g (ap gfid_of (sym same) ∙ p.1.on) in
          let o : ToldPreOp v.core (v.of e.number) x at dirty = subst (Told geometry.n (quorum geometry) g m.said v.of v.core (v.of e.number) x) same told on in
          not_true (is_marked at) (λ marked. raised (((account given (b.own a)).on g).dirty) refl o (subst (PreTold v.core (v.of e.number) x) marked o.ready))
        where
          raised : (d : Option ℕ) → ((account given (b.own a)).on g).dirty ≡ d → ToldPreOp v.core (v.of e.number) x at dirty → Saw v.core (v.of e.number) x (λ h. is_marked_head h ≡ true) → ⊥
          raised None z o saw = let zero = learnt.free z (v.of e.number) p.0.1 in let h = ap (λ (w : Ballot). w.number) o.ballot in let up = o.above in omega (arith, zero, h, up)
          raised (Some d) z o saw = no_mark (v.of e.number) p.0.1 (learnt.raised d z) saw
      by q same h = absurd (cc)

  abbrev Heard : ℕ → Exchange → Type 0
  Heard x e = (IsOfTurn m.said v.turn v.of a x e.number e.request × IsOver g m.said v.of v.core e) × IsHeard m.said e

  on_it : (x s : ℕ) (chunk : List ℕ) (e : Exchange) → Heard x e → chunk_in s e.request e.reply ≡ Some chunk → is_chunk_read g e.request ≡ true
  on_it x s chunk e p gave =
      let o = reads_of s e chunk e.request e.reply refl refl gave in
      ap (is_chunk_read g) o.request ∙ same o.gfid.0 g (some_is o.gfid.0 g (ap gfid_of (sym o.request) ∙ p.0.1.on))
    where
      same : (x y : ℕ) → x ≡ y → (x == y) ≡ true
      same x y e = grind (arith, nat_tests)

  -- what a brick of the group gave after the PreOp, the turn was given
  pub given_as_read : (t : ℕ) → v.turn a ≡ Some t → f.planned t ≡ false → (x s : ℕ) (chunk : List ℕ) → is_grouped (account given (b.own a)) g x ≡ true → did is_pre (at (account given (b.own a)) g x).window ≡ true → chunk_read s (since is_pre (at (account given (b.own a)) g x).window) ≡ Some chunk → IsGiven f t x s chunk
  given_as_read t has free x s chunk grouped done read =
      let window : List Exchange = (((account given (b.own a)).on g).place x).window in
      let o = found (Heard x) g end.late s chunk (on_it x s chunk) (((account given (b.own a)).on g).place x).window
      (all_both (λ e. IsOfTurn m.said v.turn v.of a x e.number e.request × IsOver g m.said v.of v.core e) (IsHeard m.said) (((account given (b.own a)).on g).place x).window (past x) (end.known.heard a given is g x))
      (all_map (λ e. IsOfTurn m.said v.turn v.of a x e.number e.request × IsOver g m.said v.of v.core e) (λ e. is_pre e.request ≡ true → is_plain_pre e.request ≡ true) (plain_pre x grouped) (((account given (b.own a)).on g).place x).window (past x))
      (end.known.timed a given is x).0 done read in
      from o (reads_of s o.e chunk o.e.request o.e.reply refl refl o.gave)
    where
      from : (o : Found (Heard x) end.late s chunk) → Reads s o.e chunk → IsGiven f t x s chunk
      from o w =
          let said = o.all.0.0.0 in
          let turn = some_is (v.of o.e.number) t (sym o.all.0.0.1 ∙ has) in
          let heard = o.all.1 (Chunks w.chunks) w.reply in
          let on = some_is w.gfid.0 g (ap gfid_of (sym w.request) ∙ o.all.0.1.on) in
          let given' = end.known.sent heard.0 heard.1 o.e.number (Chunks w.chunks) heard.2 heard.3 said.message w.gfid w.grant w.first w.count w.chunks said.is (said.body ∙ ap (λ (z : Request). ToBrick z) w.request) on refl o.so in
          let there : AllGiven f t x w.first w.chunks = subst (λ (y : ℕ). AllGiven f y x w.first w.chunks) turn (subst (λ (y : ℕ). AllGiven f (v.of o.e.number) y w.first w.chunks) said.brick given') in
          let one : GivenThere f t x s chunk = subst (λ (y : List ℕ). GivenThere f t x s y) (sym w.chunk_is) (subst (λ (y : ℕ). GivenThere f t x y (chunk_at w.chunks w.place)) w.stripe (there w.place w.within free)) in
          record { bytes = one.bytes; got = one.stays.got; told = one.told }

-- Releases of asks.
use Rattle.std.proofs.Common.{◌≡◌, ◌⊎◌, inl, inr, ⊎_elim, ℕ, zero, suc, ◌+◌, ◌<◌, ◌≤◌, ◌==◌, ◌&&◌, ◌||◌, nat_lt, Bool, true, false, cond, refl, sym, ◌∙◌, ap, subst, List, [], ◌∷◌, ◌++◌, length, arith, Option, Some, None, eqb-true, eq-eqb, append-nil}
use Rattle.std.specs.Prelude.{map}
use Rattle.std.specs.List.{flat_map}
use Rattle.std.proofs.lemmas.Bool.{cases_Bool, cases_eq}
use Rattle.std.proofs.lemmas.Bool.Decides.{nat_tests}
use Rattle.std.proofs.Math.Path.{fun_ext}
use Rattle.ec_conduct.specs.Account.{Account, Dealings, Lock, Place, Wait, at, gfid_of, released, sent, with_dealings, with_place, without}
use Rattle.ec_conduct.specs.Conduct.{MaySend}
use Rattle.ec_conduct.specs.Done.{is_any}
use Rattle.ec_conduct.specs.Given.{bricks_of}
use Rattle.ec_conduct.specs.Group.{has}
use Rattle.ec_conduct.specs.Table.{Send, last_sends, release, releases_at, sent_all, to_bricks}
use Rattle.ec_store.specs.Put.{put}
use Rattle.ec_wire.specs.declared.request.Request.{Request}
use Rattle.ec_wire.specs.declared.request.Request.TheVariants.{Release}
use Rattle.ec_txn.specs.Rounds.{AllGood, IsGood, IsIdle, IsListed, IsReady, IsReleased, IsUnlocked, give_back, given_back, refused, unlock}
use Rattle.ec_txn.proofs.Lists.{bricks_same, sent_append}
use Rattle.ec_txn.proofs.Rounds.{each_put, good_append}
use Rattle.ec_txn.proofs.Sending.{places, put_at}

-- the place after the releases of a list, of which there is at most one
abbrev pub dropped : List Request → Place → Place
dropped [] p = p
dropped (r ∷ rs) p = record p { inode = None }

-- nothing is released at a brick, or the ask that stands there
abbrev pub IsReleaseOf : ℕ → Option Lock → List Request → Type 0
IsReleaseOf g o rs = (rs ≡ []) ⊎ ((lock : Lock) × (o ≡ Some lock) × (rs ≡ Release (record { 0 = g }) lock.number ∷ []))

-- the account after releases at the first m bricks
pub record ReleasedTo (g m : ℕ) (c : Account) (s : ℕ → List Request) (d : Account) : Type 0 where
  pub given : d.given ≡ c.given
  pub answer : d.answer ≡ c.answer
  pub steps : d.steps ≡ c.steps
  pub gfids : d.gfids ≡ c.gfids
  pub waits : d.waits ≡ c.waits
  pub queried : (d.on g).queried ≡ (c.on g).queried
  pub dirty : (d.on g).dirty ≡ (c.on g).dirty
  pub before : (y : ℕ) → y < m → at d g y ≡ dropped (s y) (at c g y)
  pub after : (y : ℕ) → m ≤ y → at d g y ≡ at c g y

lock_gone : (lock : Lock) → without (Some lock) lock.number ≡ None
lock_gone lock = rw (eq-eqb lock.number lock.number refl) refl

released_place : (p : Place) (lock : Lock) → p.inode ≡ Some lock → p.heal ≡ None → released p lock.number ≡ record p { inode = None }
released_place p lock e h = λ j. record p { inode = (ap (λ (o : Option Lock). without o lock.number) e ∙ lock_gone lock) j; heal = (ap (λ (o : Option Lock). without o lock.number) h ∙ sym h) j }

-- one release
pub release_on : (c : Account) (g b i grant : ℕ) → (sent c b i (Release (record { 0 = g }) grant)).on g ≡ with_place (c.on g) b (released (at c g b) grant)
release_on c g b i grant = put_at c.on g _

pub released_to : (g i m : ℕ) (c : Account) (s : ℕ → List Request) → IsReady g c → ((y : ℕ) → IsReleaseOf g (at c g y).inode (s y)) → m ≤ bricks_of c.given
    → ReleasedTo g m c s (sent_all c i (to_bricks m s)) × AllGood g c i (to_bricks m s)
released_to g i zero c s ready of l = (record { given = refl; answer = refl; steps = refl; gfids = refl; waits = refl; queried = refl; dirty = refl; before = λ y less. absurd (omega arith); after = λ y more. refl }, tt)
released_to g i (suc m) c s ready of l = go (s m) refl (of m) (released_to g i m c s ready of (omega arith))
  where
    go : (rs : List Request) → s m ≡ rs → IsReleaseOf g (at c g m).inode (s m) → ReleasedTo g m c s (sent_all c i (to_bricks m s)) × AllGood g c i (to_bricks m s)
        → ReleasedTo g (suc m) c s (sent_all c i (to_bricks (suc m) s)) × AllGood g c i (to_bricks (suc m) s)
    go rs e (inl none) w =
        let same : to_bricks (suc m) s ≡ to_bricks m s = ap (λ (q : List Request). to_bricks m s ++ map (λ (r : Request). (m, r)) q) none ∙ append-nil (to_bricks m s) in
        subst (λ (ss : List Send). ReleasedTo g (suc m) c s (sent_all c i ss) × AllGood g c i ss) (sym same) (
          record {
            given = w.0.given;
            answer = w.0.answer;
            steps = w.0.steps;
            gfids = w.0.gfids;
            waits = w.0.waits;
            queried = w.0.queried;
            dirty = w.0.dirty;
            before = λ y less. elim (cases_eq y m) [
              | inl u ↦ w.0.after y (omega (arith, u)) ∙ sym (ap (λ (q : List Request). dropped q (at c g y)) (ap s u ∙ none))
              | inr u ↦ w.0.before y (omega (arith, u))
            ];
            after = λ y more. w.0.after y (omega arith);
          },
          w.1,
        )
    go rs e (inr (lock, stands, is)) w =
        let r = Release (record { 0 = g }) lock.number in
        let same : to_bricks (suc m) s ≡ to_bricks m s ++ (m, r) ∷ [] = ap (λ (q : List Request). to_bricks m s ++ map (λ (r : Request). (m, r)) q) is in
        let d = sent_all c i (to_bricks m s) in
        let j = i + length (to_bricks m s) in
        let ends : sent_all c i (to_bricks (suc m) s) ≡ sent d m j r = ap (λ (ss : List Send). sent_all c i ss) same ∙ sent_append c i (to_bricks m s) ((m, r) ∷ []) in
        let on = release_on d g m j lock.number in
        let here : at d g m ≡ at c g m = w.0.after m (omega arith) in
        let gone : (sent d m j r).on g ≡ with_place (d.on g) m (record (at c g m) { inode = None }) =
        on ∙ ap (λ (p : Place). with_place (d.on g) m p) (ap (λ (p : Place). released p lock.number) here ∙ released_place (at c g m) lock stands (ready.heal m)) in
        let place : (y : ℕ) → at (sent d m j r) g y ≡ put (places d g) m (record (at c g m) { inode = None }) y = λ (y : ℕ). ap (λ (x : Dealings). x.place y) gone in (
          subst (λ (x : Account). ReleasedTo g (suc m) c s x) (sym ends)
              (record {
                given = w.0.given;
                answer = w.0.answer;
                steps = w.0.steps;
                gfids = w.0.gfids;
                waits = w.0.waits;
                queried = ap (λ (x : Dealings). x.queried) gone ∙ w.0.queried;
                dirty = ap (λ (x : Dealings). x.dirty) gone ∙ w.0.dirty;
                before = λ y less. place y ∙ elim (cases_Bool (y == m)) [
                  | inl u ↦ let v : y ≡ m = eqb-true y m u in rw u (sym (ap (λ (x : ℕ). dropped (s x) (at c g x)) v ∙ ap (λ (q : List Request). dropped q (at c g m)) is))
                  | inr u ↦ rw u (w.0.before y (grind (arith, nat_tests)))
                ];
                after = λ y more. place y ∙ (let u : (y == m) ≡ false = grind (arith, nat_tests) in rw u (w.0.after y (omega arith)));
              }),
          subst (λ (ss : List Send). AllGood g c i ss) (sym same) (good_append g c i (to_bricks m s) ((m, r) ∷ []) w.1 (
            record {
              may = (
                record { unanswered = w.0.answer ∙ ready.unanswered; brick = subst (λ (x : ℕ). m < x) (sym (ap bricks_of w.0.given)) (omega arith) },
                record {
                  asked = subst (λ (o : Option Lock). (has (λ (l : Lock). l.number == lock.number) o || has (λ (l : Lock). l.number == lock.number) (at d g m).heal) ≡ true) (sym (ap (λ (p : Place). p.inode) here ∙ stands)) (let t = eq-eqb lock.number lock.number refl in rw t refl);
                  idle = λ x less. ap (λ (o : Option Wait). has (λ (v : Wait). has (λ (h : ℕ). h == g) (gfid_of v.request) && is_any v.request) o) (ap (λ (v : ℕ → Option Wait). v x) w.0.waits ∙ ready.idle x);
                },
              );
              below = subst (λ (x : ℕ). m < x) (sym (ap bricks_of w.0.given)) (omega arith);
              fit = tt;
              of = refl;
              plain = inr refl;
              first = λ t. absurd (cc);
            },
            tt,
          )),
        )

-- the asks that weren't granted
refused_of : (g : ℕ) (o : Option Lock) → IsReleaseOf g o (refused g o)
refused_of g None = inl refl
refused_of g (Some lock) = elim (cases_Bool lock.granted) [ inl t ↦ inl (rw t refl) | inr f ↦ inr (lock, refl, rw f refl) ]

dropped_window : (rs : List Request) (p : Place) → (dropped rs p).window ≡ p.window
dropped_window [] p = refl
dropped_window (r ∷ rs) p = refl

dropped_heal : (rs : List Request) (p : Place) → (dropped rs p).heal ≡ p.heal
dropped_heal [] p = refl
dropped_heal (r ∷ rs) p = refl

dropped_none : (rs : List Request) (p : Place) → p.inode ≡ None → (dropped rs p).inode ≡ None
dropped_none [] p e = e
dropped_none (r ∷ rs) p e = refl

-- what is left of a lock where it is released unless it was granted
left_lock : (g : ℕ) (o : Option Lock) (p : Place) (lock : Lock) → p.inode ≡ o → (dropped (refused g o) p).inode ≡ Some lock → (lock.granted ≡ true) × (p.inode ≡ Some lock)
left_lock g None p lock e l = absurd (let x = sym e ∙ l in cc)
left_lock g (Some k) p lock e l = elim (cases_Bool k.granted) [
  | inl t ↦ let m : p.inode ≡ Some lock = subst (λ (u : Bool). (dropped (cond u [] (Release (record { 0 = g }) k.number ∷ [])) p).inode ≡ Some lock) t l in let same : k ≡ lock = (let x = sym e ∙ m in cc) in (subst (λ (v : Lock). v.granted ≡ true) same t, m)
  | inr f ↦ let m : None ≡ Some lock = subst (λ (u : Bool). (dropped (cond u [] (Release (record { 0 = g }) k.number ∷ [])) p).inode ≡ Some lock) f l in absurd (cc)
]

kept_lock : (g : ℕ) (o : Option Lock) (p : Place) (lock : Lock) → p.inode ≡ o → p.inode ≡ Some lock → lock.granted ≡ true → (dropped (refused g o) p).inode ≡ Some lock
kept_lock g None p lock e l t = absurd (let x = sym e ∙ l in cc)
kept_lock g (Some k) p lock e l t =
    let same : lock ≡ k = (let x = sym l ∙ e in cc) in
    let u : k.granted ≡ true = subst (λ (v : Lock). v.granted ≡ true) same t in
    rw u l

module _ (g i m : ℕ) (c d : Account) (s : ℕ → List Request) (ready : IsReady g c) (w : ReleasedTo g m c s d) where
  place_is : (P : Place → Type 0) (y : ℕ) → (y < m → P (dropped (s y) (at c g y))) → (m ≤ y → P (at c g y)) → P (at d g y)
  place_is P y a b = elim (cases_Bool (nat_lt y m)) [
    | inl t ↦ let l : y < m = grind (arith, nat_tests) in subst P (sym (w.before y l)) (a l)
    | inr t ↦ let l : m ≤ y = grind (arith, nat_tests) in subst P (sym (w.after y l)) (b l)
  ]

  windows_are : (y : ℕ) → (at d g y).window ≡ (at c g y).window
  windows_are y = place_is (λ (p : Place). p.window ≡ (at c g y).window) y (λ l. dropped_window (s y) (at c g y)) (λ l. refl)

  heals_are : (y : ℕ) → (at d g y).heal ≡ None
  heals_are y = place_is (λ (p : Place). p.heal ≡ None) y (λ l. dropped_heal (s y) (at c g y) ∙ ready.heal y) (λ l. ready.heal y)

  still_listed : IsListed g d
  still_listed = ⊎_elim (λ e. inl (w.gfids ∙ e)) (λ e. inr (w.gfids ∙ e.0, λ y. place_is (λ (p : Place). p.inode ≡ None) y (λ l. dropped_none (s y) (at c g y) (e.1 y)) (λ l. e.1 y))) ready.gfids

  pub still_ready : IsReady g d
  still_ready = record { unanswered = w.answer ∙ ready.unanswered; idle = λ x. ap (λ (v : ℕ → Option Wait). v x) w.waits ∙ ready.idle x; heal = heals_are; gfids = still_listed }

  pub is_released : IsReleased g c d
  is_released = record { given = w.given; window = windows_are }

-- the asks that weren't granted are released
pub record UnlockedTo (g i : ℕ) (c d : Account) : Type 0 where
  pub good : AllGood g c i (unlock c g)
  pub ready : IsReady g d
  pub is : IsUnlocked g c d

pub unlocked_to : (g i : ℕ) (c : Account) → IsReady g c → ((y : ℕ) → bricks_of c.given ≤ y → (at c g y).inode ≡ None) → UnlockedTo g i c (sent_all c i (unlock c g))
unlocked_to g i c ready none =
    let n = bricks_of c.given in
    let s = λ (x : ℕ). refused g (at c g x).inode in
    let d = sent_all c i (unlock c g) in
    let w = released_to g i n c s ready (λ y. refused_of g (at c g y).inode) (omega arith) in
    record {
      good = w.1;
      ready = still_ready g i n c d s ready w.0;
      is = record {
        given = w.0.given;
        unanswered = w.0.answer;
        steps = w.0.steps;
        gfids = still_listed g i n c d s ready w.0;
        waits = λ x. ap (λ (v : ℕ → Option Wait). v x) w.0.waits;
        queried = w.0.queried;
        dirty = w.0.dirty;
        heal = heals_are g i n c d s ready w.0;
        window = windows_are g i n c d s ready w.0;
        inode = λ x lock. place_is g i n c d s ready w.0 (λ (p : Place). p.inode ≡ Some lock → (lock.granted ≡ true) × ((at c g x).inode ≡ Some lock)) x (λ l. left_lock g (at c g x).inode (at c g x) lock refl) (λ l e. absurd (let v = sym (none x l) ∙ e in cc));
        kept = λ x lock e t. place_is g i n c d s ready w.0 (λ (p : Place). p.inode ≡ Some lock) x (λ l. kept_lock g (at c g x).inode (at c g x) lock refl e t) (λ l. e);
      };
    }

-- the locks that a call releases at its end
release_of : (g : ℕ) (o : Option Lock) → IsReleaseOf g o (release g o)
release_of g None = inl refl
release_of g (Some lock) = inr (lock, refl, refl)

pub last_are : (g : ℕ) (c : Account) → IsReady g c → last_sends c None ≡ to_bricks (bricks_of c.given) (λ x. release g (at c g x).inode)
last_are g c ready = bricks_same (bricks_of c.given) (λ x. flat_map (releases_at c None x) c.gfids) (λ x. release g (at c g x).inode) (λ x. ⊎_elim
    (λ e. ap (λ (gs : List ℕ). flat_map (releases_at c None x) gs) e ∙ (ap (λ (o : Option Lock). (release g (at c g x).inode ++ release g o) ++ []) (ready.heal x) ∙ (append-nil (release g (at c g x).inode ++ []) ∙ append-nil (release g (at c g x).inode))))
    (λ e. ap (λ (gs : List ℕ). flat_map (releases_at c None x) gs) e.0 ∙ sym (ap (release g) (e.1 x)))
    ready.gfids)

-- what is given back at the end
given_of : (g : ℕ) (o p : Option Lock) → ((lock : Lock) → o ≡ Some lock → lock.granted ≡ true → p ≡ Some lock) → IsReleaseOf g p (given_back g o)
given_of g None p k = inl refl
given_of g (Some lock) p k = elim (cases_Bool lock.granted) [ inl t ↦ inr (lock, k lock refl t, rw t refl) | inr f ↦ inl (rw f refl) ]

-- a lock is given back where it stands
back_gone : (g : ℕ) (o : Option Lock) (p : Place) → ((lock : Lock) → p.inode ≡ Some lock → (lock.granted ≡ true) × (o ≡ Some lock)) → (dropped (given_back g o) p).inode ≡ None
back_gone g o p k = go p.inode refl
  where
    go : (q : Option Lock) → p.inode ≡ q → (dropped (given_back g o) p).inode ≡ None
    go None e = dropped_none (given_back g o) p e
    go (Some lock) e = let h = k lock e in subst (λ (v : Option Lock). (dropped (given_back g v) p).inode ≡ None) (sym h.1) (let t = h.0 in rw t refl)

past_gone : (o : Option Lock) (p : Place) → ((lock : Lock) → p.inode ≡ Some lock → (lock.granted ≡ true) × (o ≡ Some lock)) → o ≡ None → p.inode ≡ None
past_gone o p k none = go p.inode refl
  where
    go : (q : Option Lock) → p.inode ≡ q → p.inode ≡ None
    go None e = e
    go (Some lock) e = absurd (let v : None ≡ Some lock = sym none ∙ (k lock e).1 in cc)

pub record LastTo (g i : ℕ) (c d : Account) (ss : List Send) : Type 0 where
  pub good : AllGood g d i ss
  pub ready : IsReady g (sent_all d i ss)
  pub is : IsReleased g c (sent_all d i ss)
  pub gone : (x : ℕ) → (at (sent_all d i ss) g x).inode ≡ None

pub last_to : (g i : ℕ) (c d : Account) → IsReady g d → IsUnlocked g c d → ((y : ℕ) → bricks_of c.given ≤ y → (at c g y).inode ≡ None) → LastTo g i c d (give_back c g)
last_to g i c d ready u none =
    let n = bricks_of c.given in
    let s = λ (x : ℕ). given_back g (at c g x).inode in
    let e = sent_all d i (to_bricks n s) in
    let same : n ≤ bricks_of d.given = (let v = ap bricks_of u.given in omega (arith, v)) in
    let w = released_to g i n d s ready (λ y. given_of g (at c g y).inode (at d g y).inode (u.kept y)) same in
    let r = is_released g i n d e s ready w.0 in
    record {
      good = w.1;
      ready = still_ready g i n d e s ready w.0;
      is = record { given = r.given ∙ u.given; window = λ x. r.window x ∙ u.window x };
      gone = λ x. place_is g i n d e s ready w.0 (λ (p : Place). p.inode ≡ None) x (λ l. back_gone g (at c g x).inode (at d g x) (u.inode x)) (λ l. past_gone (at c g x).inode (at d g x) (u.inode x) (none x l));
    }

-- A call by a table of which only late stages alter, and after which no early answer comes.
use Rattle.std.proofs.Common.{◌≡◌, inl, inr, ℕ, zero, suc, ◌+◌, ◌||◌, ◌==◌, not, Bool, true, false, cond, refl, sym, ◌∙◌, ap, subst, List, [], ◌∷◌, ◌++◌, Option, Some, None}
use Rattle.std.specs.Prelude.{map}
use Rattle.std.specs.List.{list_any}
use Rattle.std.proofs.lemmas.List.Folds.{list_any-append}
use Rattle.ec_attr.specs.declared.kind.Domain.TheVariants.{Inode, Heal}
use Rattle.ec_conduct.specs.Account.{Account, Exchange, Lock, Wait, after, at, filed, gave_up, gfid_of, heard_by, left_by, over, sent, told}
use Rattle.ec_conduct.specs.Given.{Given, bricks_of}
use Rattle.ec_conduct.specs.Opened.{account, opened}
use Rattle.ec_conduct.specs.Own.{Own, Sends, Hears, GivesUp, Answers}
use Rattle.ec_conduct.specs.Table.{IsByTable, IsByTurns, IsFromOutside, Send, Step, Turned, entries_of, sent_all, step_entries, to_bricks}
use Rattle.ec_conduct.proofs.Fronts.{account_append}
use Rattle.ec_conduct.proofs.Steps.{step_account}
use Rattle.ec_store.specs.Put.{put}
use Rattle.ec_txn.specs.Rounds.{Asks, IsFirst, IsTaken, give_back, given_back, one, refused, round, subject, unlock, where_so}
use Rattle.ec_txn.specs.Tables.{Begins, Goes, Table, asked_again}
use Rattle.ec_txn.specs.declared.stage.Next.{Next}
use Rattle.ec_txn.specs.declared.stage.Next.TheVariants.{Go, Say}
use Rattle.ec_wire.specs.declared.answer.Answer.{Answer}
use Rattle.ec_wire.specs.declared.request.Request.{Request}
use Rattle.ec_wire.specs.declared.request.Request.TheVariants.{Ask, PreOp, Query, Release}
use Rattle.ec_law_grants.specs.Alters.{alters, has_altered, sends_alteration}
use Rattle.ec_law_turns.proofs.Allowed.{account_given, after_given}

-- ## What is sent

abbrev is_altering : Send → Bool
is_altering s = alters s.1

abbrev any_alters : List Send → Bool
any_alters ss = list_any is_altering ss

both_false : (a b : Bool) → a ≡ false → b ≡ false → (a || b) ≡ false
both_false true b e f = absurd (cc)
both_false false b e f = f

entries_altered : (i : ℕ) (ss : List Send) (answer : Option Answer) → has_altered (entries_of i ss answer) ≡ any_alters ss
entries_altered i [] None = refl
entries_altered i [] (Some answer) = refl
entries_altered i (s ∷ ss) answer = ap (λ (b : Bool). alters s.1 || b) (entries_altered (i + 1) ss answer)

to_one : (n : ℕ) (rs : List Request) → any_alters (map (λ (r : Request). (n, r)) rs) ≡ list_any alters rs
to_one n [] = refl
to_one n (r ∷ rs) = ap (λ (b : Bool). alters r || b) (to_one n rs)

sends_quiet : (xs ys : List Send) → any_alters xs ≡ false → any_alters ys ≡ false → any_alters (xs ++ ys) ≡ false
sends_quiet xs ys a b = list_any-append is_altering xs ys ∙ both_false (any_alters xs) (any_alters ys) a b

bricks_quiet : (n : ℕ) (f : ℕ → List Request) → ((x : ℕ) → list_any alters (f x) ≡ false) → any_alters (to_bricks n f) ≡ false
bricks_quiet zero f q = refl
bricks_quiet (suc n) f q = sends_quiet (to_bricks n f) (map (λ (r : Request). (n, r)) (f n)) (bricks_quiet n f q) (to_one n (f n) ∙ q n)

round_quiet : (n : ℕ) (f : Asks) → ((x : ℕ) (r : Request) → f x ≡ Some r → alters r ≡ false) → any_alters (round n f) ≡ false
round_quiet n f q = bricks_quiet n (λ x. one (f x)) (λ x. by x (f x) refl)
  where
    by : (x : ℕ) (o : Option Request) → f x ≡ o → list_any alters (one o) ≡ false
    by x None e = refl
    by x (Some r) e = both_false (alters r) false (q x r e) refl

unlock_quiet : (c : Account) (g : ℕ) → any_alters (unlock c g) ≡ false
unlock_quiet c g = bricks_quiet (bricks_of c.given) (λ x. refused g (at c g x).inode) (λ x. by (at c g x).inode)
  where
    by : (o : Option Lock) → list_any alters (refused g o) ≡ false
    by None = refl
    by (Some lock) = either lock.granted
      where
        either : (b : Bool) → list_any alters (cond b [] (Release (record { 0 = g }) lock.number ∷ [])) ≡ false
        either true = refl
        either false = refl

back_quiet : (c : Account) (g : ℕ) → any_alters (give_back c g) ≡ false
back_quiet c g = bricks_quiet (bricks_of c.given) (λ x. given_back g (at c g x).inode) (λ x. by (at c g x).inode)
  where
    by : (o : Option Lock) → list_any alters (given_back g o) ≡ false
    by None = refl
    by (Some lock) = either lock.granted
      where
        either : (b : Bool) → list_any alters (cond b (Release (record { 0 = g }) lock.number ∷ []) []) ≡ false
        either true = refl
        either false = refl

-- a turn alters nothing where neither what came before nor what it sends does
turn_quiet : (earlier rest : List Own) (what : Own) → IsFromOutside what → has_altered earlier ≡ false → has_altered rest ≡ false → has_altered (earlier ++ what ∷ rest) ≡ false
turn_quiet earlier rest what out a b = list_any-append sends_alteration earlier (what ∷ rest) ∙ both_false (has_altered earlier) (has_altered (what ∷ rest)) a (both_false (sends_alteration what) (has_altered rest) (by what out) b)
  where
    by : (what : Own) → IsFromOutside what → sends_alteration what ≡ false
    by (Sends b i q) out = absurd out
    by (Hears b i reply) out = refl
    by (GivesUp b i) out = refl
    by (Answers answer) out = absurd out

-- ## Nothing but an answer answers

sent_answer : (c : Account) (b i : ℕ) (q : Request) → (sent c b i q).answer ≡ c.answer
sent_answer c b i (Ask x Inode kind) = refl
sent_answer c b i (Ask x Heal kind) = refl
sent_answer c b i (Release x n) = refl
sent_answer c b i (Query x n) = refl
sent_answer c b i (PreOp x n v dirty) = refl
sent_answer c b i q = refl

all_answer : (c : Account) (i : ℕ) (ss : List Send) → (sent_all c i ss).answer ≡ c.answer
all_answer c i [] = refl
all_answer c i (s ∷ ss) = all_answer (sent c s.0 i s.1) (i + 1) ss ∙ sent_answer c s.0 i s.1

over_answer : (c : Account) (b : ℕ) (e : Exchange) → (over c b e).answer ≡ c.answer
over_answer c b e = by (gfid_of e.request)
  where
    by : (o : Option ℕ) → (filed (record c { waits = put c.waits b None; steps = c.steps + 1 }) b e o).answer ≡ c.answer
    by None = refl
    by (Some x) = refl

outside_answer : (c : Account) (what : Own) → IsFromOutside what → (after c what).answer ≡ c.answer
outside_answer c (Sends b i q) out = absurd out
outside_answer c (Hears b i reply) out = by (c.waits b)
  where
    by : (o : Option Wait) → (heard_by c b o i reply).answer ≡ c.answer
    by None = refl
    by (Some w) = either (w.number == i)
      where
        either : (t : Bool) → (cond t (told c b w reply) c).answer ≡ c.answer
        either true = over_answer c b (record { number = w.number; request = w.request; reply = Some reply })
        either false = refl
outside_answer c (GivesUp b i) out = by (c.waits b)
  where
    by : (o : Option Wait) → (left_by c b o i).answer ≡ c.answer
    by None = refl
    by (Some w) = either (w.number == i)
      where
        either : (t : Bool) → (cond t (gave_up c b w) c).answer ≡ c.answer
        either true = over_answer c b (record { number = w.number; request = w.request; reply = None })
        either false = refl
outside_answer c (Answers answer) out = absurd out

-- ## Along a table

-- a late stage comes next, or no early answer
abbrev pub is_late : {P : Type 0} → (P → Bool) → (Answer → Bool) → Next P → Bool
is_late late early (Go q) = late q
is_late late early (Say answer) = not (early answer)

-- Of a call begun with these: only late stages ask what alters, and what follows a late stage is late.
pub record IsQuiet {P : Type 0} (given : Given) (t : Table P) (late : P → Bool) (early : Answer → Bool) : Type 0 where
  pub asks : (p : P) (c : Account) (x : ℕ) (r : Request) → late p ≡ false → t.asks p c x ≡ Some r → alters r ≡ false
  pub stays : (p : P) (c : Account) (next : Next P) → c.given ≡ given → late p ≡ true → t.follows p c next → is_late late early next ≡ true

not_both : (t : Bool) → t ≡ true → t ≡ false → ⊥
not_both true e f = absurd (cc)
not_both false e f = absurd (cc)

not_early : (t : Bool) → not t ≡ true → t ≡ true → ⊥
not_early true e f = absurd (cc)
not_early false e f = absurd (cc)

where_asked : (so : Bool) (f : Asks) (x : ℕ) (r : Request) → where_so so f x ≡ Some r → f x ≡ Some r
where_asked true f x r e = e
where_asked false f x r e = absurd (cc)

module _ {P : Type 0} (given : Given) (t : Table P) (late : P → Bool) (early : Answer → Bool) (k : IsQuiet given t late early) where
  record AtStage (p : P) (es : List Own) : Type 0 where
    pub unanswered : (account given es).answer ≡ None
    pub quiet : late p ≡ false → has_altered es ≡ false

  record AtEnd (es : List Own) : Type 0 where
    pub answer : Answer
    pub told : (account given es).answer ≡ Some answer
    pub quiet : early answer ≡ true → has_altered es ≡ false

  abbrev Left : Option P → List Own → Type 0
  Left None es = AtEnd es
  Left (Some p) es = AtStage p es

  -- nothing late came before
  was_early : (p : P) (c : Account) (next : Next P) → c.given ≡ given → t.follows p c next → is_late late early next ≡ false → late p ≡ false
  was_early p c next e follows now = by (late p) refl
    where
      by : (b : Bool) → late p ≡ b → late p ≡ false
      by true l = absurd (not_both (is_late late early next) (k.stays p c next e l follows) now)
      by false l = l

  first_left : (i : ℕ) (step : Step P) (next : Next P) → IsFirst (bricks_of given) (λ q. t.asks q (opened given)) next step → Left step.stage (step_entries i step)
  first_left i step (Go q) is = subst (λ (s : Step P). Left s.stage (step_entries i s)) (sym is) (record {
    unanswered = ap (λ (c : Account). c.answer) (step_account (opened given) i (round (bricks_of given) (t.asks q (opened given))) None) ∙ all_answer (opened given) i (round (bricks_of given) (t.asks q (opened given)));
    quiet = λ l. entries_altered i (round (bricks_of given) (t.asks q (opened given))) None ∙ round_quiet (bricks_of given) (t.asks q (opened given)) (λ x r e. k.asks q (opened given) x r l e);
  })
  first_left i step (Say answer) is = subst (λ (s : Step P). Left s.stage (step_entries i s)) (sym is) (record { answer = answer; told = refl; quiet = λ e. refl })

  -- the answer of an account after a turn
  turn_answer : (earlier : List Own) (what : Own) (i : ℕ) (ss : List Send) (answer : Option Answer) → (account given (earlier ++ what ∷ entries_of i ss answer)).answer ≡ (Rattle.ec_conduct.specs.Table.with_answer (sent_all (after (account given earlier) what) i ss) answer).answer
  turn_answer earlier what i ss answer = ap (λ (c : Account). c.answer) (account_append (opened given) earlier (what ∷ entries_of i ss answer) ∙ step_account (after (account given earlier) what) i ss answer)

  module _ (earlier : List Own) (before : P) (what : Own) (out : IsFromOutside what) (h : AtStage before earlier) where
    abbrev now : Account
    now = after (account given earlier) what

    now_given : now.given ≡ given
    now_given = after_given (account given earlier) what ∙ account_given given earlier

    still : (i : ℕ) (ss : List Send) → (account given (earlier ++ what ∷ entries_of i ss None)).answer ≡ None
    still i ss = turn_answer earlier what i ss None ∙ (all_answer now i ss ∙ (outside_answer (account given earlier) what out ∙ h.unanswered))

    turn_altered : (i : ℕ) (ss : List Send) (answer : Option Answer) → late before ≡ false → any_alters ss ≡ false → has_altered (earlier ++ what ∷ entries_of i ss answer) ≡ false
    turn_altered i ss answer l q = turn_quiet earlier (entries_of i ss answer) what out (h.quiet l) (entries_altered i ss answer ∙ q)

    taken_left : (i : ℕ) (step : Step P) (next : Next P) → t.follows before now next → IsTaken (subject now.given.op) now (λ q. t.asks q now) next step → Left step.stage (earlier ++ what ∷ step_entries i step)
    taken_left i step (Go q) follows is = subst (λ (s : Step P). Left s.stage (earlier ++ what ∷ step_entries i s)) (sym is) (record {
      unanswered = still i (unlock now (subject now.given.op) ++ round (bricks_of now.given) (t.asks q now));
      quiet = λ l. turn_altered i (unlock now (subject now.given.op) ++ round (bricks_of now.given) (t.asks q now)) None (was_early before now (Go q) now_given follows l)
          (sends_quiet (unlock now (subject now.given.op)) (round (bricks_of now.given) (t.asks q now)) (unlock_quiet now (subject now.given.op)) (round_quiet (bricks_of now.given) (t.asks q now) (λ x r e. k.asks q now x r l e)));
    })
    taken_left i step (Say answer) follows is = subst (λ (s : Step P). Left s.stage (earlier ++ what ∷ step_entries i s)) (sym is) (record {
      answer = answer;
      told = turn_answer earlier what i (unlock now (subject now.given.op) ++ give_back now (subject now.given.op)) (Some answer);
      quiet = λ e. turn_altered i (unlock now (subject now.given.op) ++ give_back now (subject now.given.op)) (Some answer) (was_early before now (Say answer) now_given follows (ap not e))
          (sends_quiet (unlock now (subject now.given.op)) (give_back now (subject now.given.op)) (unlock_quiet now (subject now.given.op)) (back_quiet now (subject now.given.op)));
    })

    step_left : (i : ℕ) (step : Step P) → Goes t before now step → Left step.stage (earlier ++ what ∷ step_entries i step)
    step_left i step (inl (waits, is)) = subst (λ (s : Step P). Left s.stage (earlier ++ what ∷ step_entries i s)) (sym is) (record {
      unanswered = still i (asked_again t before now);
      quiet = λ l. turn_altered i (asked_again t before now) None l (round_quiet (bricks_of now.given) (where_so (t.again before) (t.asks before now)) (λ x r e. k.asks before now x r l (where_asked (t.again before) (t.asks before now) x r e)));
    })
    step_left i step (inr (idle, quiet, next, follows, is)) = taken_left i step next follows is

  left : (ts : List (Turned P)) (es : List Own) (stage : Option P) → IsByTurns (Begins t) (Goes t) given ts es stage → Left stage es
  left [] es stage (i, step, (next, starts, first), entries, is) = subst (λ (o : Option P). Left o es) (sym is) (subst (Left step.stage) (sym entries) (first_left i step next first))
  left (turn ∷ ts) es stage (earlier, before, by, outside, went, entries, is) =
      subst (λ (o : Option P). Left o es) (sym is) (subst (Left turn.step.stage) (sym entries) (step_left earlier before turn.what outside (left ts earlier (Some before) by) turn.number turn.step went))

  none_some : (a : Answer) → None ≡ Some a → ⊥
  none_some a e = cc

  same_answer : (a b : Answer) → Some a ≡ Some b → a ≡ b
  same_answer a b e = cc

  -- a call that has an early answer altered nothing
  pub early_quiet : (es : List Own) (stage : Option P) (answer : Answer) → IsByTable (Begins t) (Goes t) given es stage → (account given es).answer ≡ Some answer → early answer ≡ true → has_altered es ≡ false
  early_quiet es stage answer (ts, by) told e = at_stage stage (left ts es stage by)
    where
      at_stage : (o : Option P) → Left o es → has_altered es ≡ false
      at_stage (Some p) h = absurd (none_some answer (sym h.unanswered ∙ told))
      at_stage None h = h.quiet (ap early (same_answer h.answer answer (sym h.told ∙ told)) ∙ e)

  -- nor did one of no late stages
  pub always_quiet : (es : List Own) (stage : Option P) → IsByTable (Begins t) (Goes t) given es stage → ((p : P) → late p ≡ false) → ((answer : Answer) → early answer ≡ true) → has_altered es ≡ false
  always_quiet es stage (ts, by) all every = at_stage stage (left ts es stage by)
    where
      at_stage : (o : Option P) → Left o es → has_altered es ≡ false
      at_stage (Some p) h = h.quiet (all p)
      at_stage None h = h.quiet (every h.answer)

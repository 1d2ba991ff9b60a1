-- Each act keeps what a turn was told.
use Rattle.std.proofs.Common.{◌≡◌, ℕ, ◌<◌, true, false, refl, arith}
use Rattle.std.proofs.lemmas.Bool.Decides.{nat_tests}
use Rattle.ec_law_base.specs.State.{State, Ballot}
use Rattle.ec_law_ballots.specs.Act.{Act, step}
use Rattle.ec_law_ballots.specs.Act.Act.{Grant, Free, Share, Unshare, Moment, See, Keep, Carry, Choose, Choose_kept, Pre, Sink_pre, Post, Sink_post, Clear, Heal_grant, Heal_free, Mark, Unmark, Maker_grant, Maker_free, Make, Made, Unmake, Stop, Replace}
use Rattle.ec_law_ballots.specs.Guard.{May}
use Rattle.ec_law_ballots.specs.Clauses.{SharedNone}
use Rattle.ec_law_moments.specs.Then.{has_grant}

-- what stays of a turn whose moment has been
pub record Stays (s t : State) : Type 0 where
  pub ballot : (a : ℕ) → 0 < (s.ballot a).number → t.ballot a ≡ s.ballot a
  pub at_post : (x e c : ℕ) → s.moment x ≡ true → t.at_post x e c ≡ s.at_post x e c
  pub origin : t.origin ≡ s.origin

pub stays : (n k : ℕ) (s : State) (e : Act) → May n k s e → Stays s (step s e)
stays n k s (Grant t d) may = record { ballot = λ c h. refl; at_post = λ y e c h. refl; origin = refl }
stays n k s (Free d) may = record { ballot = λ c h. refl; at_post = λ y e c h. refl; origin = refl }
stays n k s (Share t d) may = record { ballot = λ c h. refl; at_post = λ y e c h. refl; origin = refl }
stays n k s (Unshare t d) may = record { ballot = λ c h. refl; at_post = λ y e c h. refl; origin = refl }
stays n k s (Moment t) may = record { ballot = λ c h. refl; at_post = λ y e c h. grind (arith, nat_tests); origin = refl }
stays n k s (See t d) may = record { ballot = λ c h. refl; at_post = λ y e c h. refl; origin = refl }
stays n k s (Keep t u) may = record { ballot = λ c h. refl; at_post = λ y e c h. refl; origin = refl }
stays n k s (Carry u t d) may = record { ballot = λ c h. refl; at_post = λ y e c h. refl; origin = refl }
stays n k s (Choose t p) may = record { ballot = λ c h. grind (arith, nat_tests); at_post = λ y e c h. refl; origin = refl }
stays n k s (Choose_kept t u p) may = record { ballot = λ c h. grind (arith, nat_tests); at_post = λ y e c h. refl; origin = refl }
stays n k s (Pre t d) may = record { ballot = λ c h. refl; at_post = λ y e c h. refl; origin = refl }
stays n k s (Sink_pre t d) may = record { ballot = λ c h. refl; at_post = λ y e c h. refl; origin = refl }
stays n k s (Post t d) may = record { ballot = λ c h. refl; at_post = λ y e c h. refl; origin = refl }
stays n k s (Sink_post t d) may = record { ballot = λ c h. refl; at_post = λ y e c h. refl; origin = refl }
stays n k s (Clear t d) may = record { ballot = λ c h. refl; at_post = λ y e c h. refl; origin = refl }
stays n k s (Heal_grant h d) may = record { ballot = λ c h. refl; at_post = λ y e c h. refl; origin = refl }
stays n k s (Heal_free d) may = record { ballot = λ c h. refl; at_post = λ y e c h. refl; origin = refl }
stays n k s (Mark t d) may = record { ballot = λ c h. refl; at_post = λ y e c h. refl; origin = refl }
stays n k s (Unmark t d) may = record { ballot = λ c h. refl; at_post = λ y e c h. refl; origin = refl }
stays n k s (Maker_grant d) may = record { ballot = λ c h. refl; at_post = λ y e c h. refl; origin = refl }
stays n k s (Maker_free d) may = record { ballot = λ c h. refl; at_post = λ y e c h. refl; origin = refl }
stays n k s (Make d) may = record { ballot = λ c h. refl; at_post = λ y e c h. refl; origin = refl }
stays n k s (Made d) may = record { ballot = λ c h. refl; at_post = λ y e c h. refl; origin = refl }
stays n k s (Unmake d) may = record { ballot = λ c h. refl; at_post = λ y e c h. refl; origin = refl }
stays n k s (Stop d) may = record { ballot = λ c h. refl; at_post = λ y e c h. refl; origin = refl }
stays n k s (Replace d) may = record { ballot = λ c h. refl; at_post = λ y e c h. refl; origin = refl }

-- the record of a brick under a grant was so before
abbrev pub WasHeld : State → State → ℕ → ℕ → Type 0
WasHeld s t x b = (has_grant s x b ≡ true) × (s.early x b ≡ true) × (s.moment x ≡ true) × (s.pre x b ≡ false) × (s.present b ≡ true) × (s.marked b ≡ false) × (t.version b ≡ s.version b)

pub was-grant : (n k : ℕ) (s : State) (t d : ℕ) → May n k s (Grant t d) → SharedNone s d → (x b : ℕ) → has_grant (step s (Grant t d)) x b ≡ true → (step s (Grant t d)).early x b ≡ true → (step s (Grant t d)).moment x ≡ true → (step s (Grant t d)).pre x b ≡ false → (step s (Grant t d)).present b ≡ true → (step s (Grant t d)).marked b ≡ false → WasHeld s (step s (Grant t d)) x b
was-grant n k s t d may none x b f g i j l m = (grind (arith, nat_tests), grind (arith, nat_tests), grind (arith, nat_tests), grind (arith, nat_tests), grind (arith, nat_tests), grind (arith, nat_tests), grind (arith, nat_tests))

pub was-free : (n k : ℕ) (s : State) (d : ℕ) → May n k s (Free d) → (x b : ℕ) → has_grant (step s (Free d)) x b ≡ true → (step s (Free d)).early x b ≡ true → (step s (Free d)).moment x ≡ true → (step s (Free d)).pre x b ≡ false → (step s (Free d)).present b ≡ true → (step s (Free d)).marked b ≡ false → WasHeld s (step s (Free d)) x b
was-free n k s d may x b f g i j l m = (grind (arith, nat_tests), grind (arith, nat_tests), grind (arith, nat_tests), grind (arith, nat_tests), grind (arith, nat_tests), grind (arith, nat_tests), grind (arith, nat_tests))

pub was-share : (n k : ℕ) (s : State) (t d : ℕ) → May n k s (Share t d) → (x b : ℕ) → has_grant (step s (Share t d)) x b ≡ true → (step s (Share t d)).early x b ≡ true → (step s (Share t d)).moment x ≡ true → (step s (Share t d)).pre x b ≡ false → (step s (Share t d)).present b ≡ true → (step s (Share t d)).marked b ≡ false → WasHeld s (step s (Share t d)) x b
was-share n k s t d may x b f g i j l m = (grind (arith, nat_tests), grind (arith, nat_tests), grind (arith, nat_tests), grind (arith, nat_tests), grind (arith, nat_tests), grind (arith, nat_tests), grind (arith, nat_tests))

pub was-unshare : (n k : ℕ) (s : State) (t d : ℕ) → May n k s (Unshare t d) → (x b : ℕ) → has_grant (step s (Unshare t d)) x b ≡ true → (step s (Unshare t d)).early x b ≡ true → (step s (Unshare t d)).moment x ≡ true → (step s (Unshare t d)).pre x b ≡ false → (step s (Unshare t d)).present b ≡ true → (step s (Unshare t d)).marked b ≡ false → WasHeld s (step s (Unshare t d)) x b
was-unshare n k s t d may x b f g i j l m = (grind (arith, nat_tests), grind (arith, nat_tests), grind (arith, nat_tests), grind (arith, nat_tests), grind (arith, nat_tests), grind (arith, nat_tests), grind (arith, nat_tests))

pub was-see : (n k : ℕ) (s : State) (t d : ℕ) → May n k s (See t d) → (x b : ℕ) → has_grant (step s (See t d)) x b ≡ true → (step s (See t d)).early x b ≡ true → (step s (See t d)).moment x ≡ true → (step s (See t d)).pre x b ≡ false → (step s (See t d)).present b ≡ true → (step s (See t d)).marked b ≡ false → WasHeld s (step s (See t d)) x b
was-see n k s t d may x b f g i j l m = (grind (arith, nat_tests), grind (arith, nat_tests), grind (arith, nat_tests), grind (arith, nat_tests), grind (arith, nat_tests), grind (arith, nat_tests), grind (arith, nat_tests))

pub was-keep : (n k : ℕ) (s : State) (t u : ℕ) → May n k s (Keep t u) → (x b : ℕ) → has_grant (step s (Keep t u)) x b ≡ true → (step s (Keep t u)).early x b ≡ true → (step s (Keep t u)).moment x ≡ true → (step s (Keep t u)).pre x b ≡ false → (step s (Keep t u)).present b ≡ true → (step s (Keep t u)).marked b ≡ false → WasHeld s (step s (Keep t u)) x b
was-keep n k s t u may x b f g i j l m = (grind (arith, nat_tests), grind (arith, nat_tests), grind (arith, nat_tests), grind (arith, nat_tests), grind (arith, nat_tests), grind (arith, nat_tests), grind (arith, nat_tests))

pub was-carry : (n k : ℕ) (s : State) (u t d : ℕ) → May n k s (Carry u t d) → SharedNone s d → (x b : ℕ) → has_grant (step s (Carry u t d)) x b ≡ true → (step s (Carry u t d)).early x b ≡ true → (step s (Carry u t d)).moment x ≡ true → (step s (Carry u t d)).pre x b ≡ false → (step s (Carry u t d)).present b ≡ true → (step s (Carry u t d)).marked b ≡ false → WasHeld s (step s (Carry u t d)) x b
was-carry n k s u t d may none x b f g i j l m = (grind (arith, nat_tests), grind (arith, nat_tests), grind (arith, nat_tests), grind (arith, nat_tests), grind (arith, nat_tests), grind (arith, nat_tests), grind (arith, nat_tests))

pub was-choose : (n k : ℕ) (s : State) (t : ℕ) (p : Ballot) → May n k s (Choose t p) → (x b : ℕ) → has_grant (step s (Choose t p)) x b ≡ true → (step s (Choose t p)).early x b ≡ true → (step s (Choose t p)).moment x ≡ true → (step s (Choose t p)).pre x b ≡ false → (step s (Choose t p)).present b ≡ true → (step s (Choose t p)).marked b ≡ false → WasHeld s (step s (Choose t p)) x b
was-choose n k s t p may x b f g i j l m = (grind (arith, nat_tests), grind (arith, nat_tests), grind (arith, nat_tests), grind (arith, nat_tests), grind (arith, nat_tests), grind (arith, nat_tests), grind (arith, nat_tests))

pub was-choose_kept : (n k : ℕ) (s : State) (t u : ℕ) (p : Ballot) → May n k s (Choose_kept t u p) → (x b : ℕ) → has_grant (step s (Choose_kept t u p)) x b ≡ true → (step s (Choose_kept t u p)).early x b ≡ true → (step s (Choose_kept t u p)).moment x ≡ true → (step s (Choose_kept t u p)).pre x b ≡ false → (step s (Choose_kept t u p)).present b ≡ true → (step s (Choose_kept t u p)).marked b ≡ false → WasHeld s (step s (Choose_kept t u p)) x b
was-choose_kept n k s t u p may x b f g i j l m = (grind (arith, nat_tests), grind (arith, nat_tests), grind (arith, nat_tests), grind (arith, nat_tests), grind (arith, nat_tests), grind (arith, nat_tests), grind (arith, nat_tests))

pub was-pre : (n k : ℕ) (s : State) (t d : ℕ) → May n k s (Pre t d) → SharedNone s d → (x b : ℕ) → has_grant (step s (Pre t d)) x b ≡ true → (step s (Pre t d)).early x b ≡ true → (step s (Pre t d)).moment x ≡ true → (step s (Pre t d)).pre x b ≡ false → (step s (Pre t d)).present b ≡ true → (step s (Pre t d)).marked b ≡ false → WasHeld s (step s (Pre t d)) x b
was-pre n k s t d may none x b f g i j l m = (grind (arith, nat_tests), grind (arith, nat_tests), grind (arith, nat_tests), grind (arith, nat_tests), grind (arith, nat_tests), grind (arith, nat_tests), grind (arith, nat_tests))

pub was-sink_pre : (n k : ℕ) (s : State) (t d : ℕ) → May n k s (Sink_pre t d) → SharedNone s d → (x b : ℕ) → has_grant (step s (Sink_pre t d)) x b ≡ true → (step s (Sink_pre t d)).early x b ≡ true → (step s (Sink_pre t d)).moment x ≡ true → (step s (Sink_pre t d)).pre x b ≡ false → (step s (Sink_pre t d)).present b ≡ true → (step s (Sink_pre t d)).marked b ≡ false → WasHeld s (step s (Sink_pre t d)) x b
was-sink_pre n k s t d may none x b f g i j l m = (grind (arith, nat_tests), grind (arith, nat_tests), grind (arith, nat_tests), grind (arith, nat_tests), grind (arith, nat_tests), grind (arith, nat_tests), grind (arith, nat_tests))

pub was-post : (n k : ℕ) (s : State) (t d : ℕ) → May n k s (Post t d) → SharedNone s d → (x b : ℕ) → has_grant (step s (Post t d)) x b ≡ true → (step s (Post t d)).early x b ≡ true → (step s (Post t d)).moment x ≡ true → (step s (Post t d)).pre x b ≡ false → (step s (Post t d)).present b ≡ true → (step s (Post t d)).marked b ≡ false → WasHeld s (step s (Post t d)) x b
was-post n k s t d may none x b f g i j l m = (grind (arith, nat_tests), grind (arith, nat_tests), grind (arith, nat_tests), grind (arith, nat_tests), grind (arith, nat_tests), grind (arith, nat_tests), grind (arith, nat_tests))

pub was-sink_post : (n k : ℕ) (s : State) (t d : ℕ) → May n k s (Sink_post t d) → SharedNone s d → (x b : ℕ) → has_grant (step s (Sink_post t d)) x b ≡ true → (step s (Sink_post t d)).early x b ≡ true → (step s (Sink_post t d)).moment x ≡ true → (step s (Sink_post t d)).pre x b ≡ false → (step s (Sink_post t d)).present b ≡ true → (step s (Sink_post t d)).marked b ≡ false → WasHeld s (step s (Sink_post t d)) x b
was-sink_post n k s t d may none x b f g i j l m = (grind (arith, nat_tests), grind (arith, nat_tests), grind (arith, nat_tests), grind (arith, nat_tests), grind (arith, nat_tests), grind (arith, nat_tests), grind (arith, nat_tests))

pub was-clear : (n k : ℕ) (s : State) (t d : ℕ) → May n k s (Clear t d) → SharedNone s d → (x b : ℕ) → has_grant (step s (Clear t d)) x b ≡ true → (step s (Clear t d)).early x b ≡ true → (step s (Clear t d)).moment x ≡ true → (step s (Clear t d)).pre x b ≡ false → (step s (Clear t d)).present b ≡ true → (step s (Clear t d)).marked b ≡ false → WasHeld s (step s (Clear t d)) x b
was-clear n k s t d may none x b f g i j l m = (grind (arith, nat_tests), grind (arith, nat_tests), grind (arith, nat_tests), grind (arith, nat_tests), grind (arith, nat_tests), grind (arith, nat_tests), grind (arith, nat_tests))

pub was-heal_grant : (n k : ℕ) (s : State) (h d : ℕ) → May n k s (Heal_grant h d) → (x b : ℕ) → has_grant (step s (Heal_grant h d)) x b ≡ true → (step s (Heal_grant h d)).early x b ≡ true → (step s (Heal_grant h d)).moment x ≡ true → (step s (Heal_grant h d)).pre x b ≡ false → (step s (Heal_grant h d)).present b ≡ true → (step s (Heal_grant h d)).marked b ≡ false → WasHeld s (step s (Heal_grant h d)) x b
was-heal_grant n k s h d may x b f g i j l m = (grind (arith, nat_tests), grind (arith, nat_tests), grind (arith, nat_tests), grind (arith, nat_tests), grind (arith, nat_tests), grind (arith, nat_tests), grind (arith, nat_tests))

pub was-heal_free : (n k : ℕ) (s : State) (d : ℕ) → May n k s (Heal_free d) → (x b : ℕ) → has_grant (step s (Heal_free d)) x b ≡ true → (step s (Heal_free d)).early x b ≡ true → (step s (Heal_free d)).moment x ≡ true → (step s (Heal_free d)).pre x b ≡ false → (step s (Heal_free d)).present b ≡ true → (step s (Heal_free d)).marked b ≡ false → WasHeld s (step s (Heal_free d)) x b
was-heal_free n k s d may x b f g i j l m = (grind (arith, nat_tests), grind (arith, nat_tests), grind (arith, nat_tests), grind (arith, nat_tests), grind (arith, nat_tests), grind (arith, nat_tests), grind (arith, nat_tests))

pub was-mark : (n k : ℕ) (s : State) (t d : ℕ) → May n k s (Mark t d) → SharedNone s d → (x b : ℕ) → has_grant (step s (Mark t d)) x b ≡ true → (step s (Mark t d)).early x b ≡ true → (step s (Mark t d)).moment x ≡ true → (step s (Mark t d)).pre x b ≡ false → (step s (Mark t d)).present b ≡ true → (step s (Mark t d)).marked b ≡ false → WasHeld s (step s (Mark t d)) x b
was-mark n k s t d may none x b f g i j l m = (grind (arith, nat_tests), grind (arith, nat_tests), grind (arith, nat_tests), grind (arith, nat_tests), grind (arith, nat_tests), grind (arith, nat_tests), grind (arith, nat_tests))

pub was-maker_grant : (n k : ℕ) (s : State) (d : ℕ) → May n k s (Maker_grant d) → (x b : ℕ) → has_grant (step s (Maker_grant d)) x b ≡ true → (step s (Maker_grant d)).early x b ≡ true → (step s (Maker_grant d)).moment x ≡ true → (step s (Maker_grant d)).pre x b ≡ false → (step s (Maker_grant d)).present b ≡ true → (step s (Maker_grant d)).marked b ≡ false → WasHeld s (step s (Maker_grant d)) x b
was-maker_grant n k s d may x b f g i j l m = (grind (arith, nat_tests), grind (arith, nat_tests), grind (arith, nat_tests), grind (arith, nat_tests), grind (arith, nat_tests), grind (arith, nat_tests), grind (arith, nat_tests))

pub was-maker_free : (n k : ℕ) (s : State) (d : ℕ) → May n k s (Maker_free d) → (x b : ℕ) → has_grant (step s (Maker_free d)) x b ≡ true → (step s (Maker_free d)).early x b ≡ true → (step s (Maker_free d)).moment x ≡ true → (step s (Maker_free d)).pre x b ≡ false → (step s (Maker_free d)).present b ≡ true → (step s (Maker_free d)).marked b ≡ false → WasHeld s (step s (Maker_free d)) x b
was-maker_free n k s d may x b f g i j l m = (grind (arith, nat_tests), grind (arith, nat_tests), grind (arith, nat_tests), grind (arith, nat_tests), grind (arith, nat_tests), grind (arith, nat_tests), grind (arith, nat_tests))

pub was-made : (n k : ℕ) (s : State) (d : ℕ) → May n k s (Made d) → (x b : ℕ) → has_grant (step s (Made d)) x b ≡ true → (step s (Made d)).early x b ≡ true → (step s (Made d)).moment x ≡ true → (step s (Made d)).pre x b ≡ false → (step s (Made d)).present b ≡ true → (step s (Made d)).marked b ≡ false → WasHeld s (step s (Made d)) x b
was-made n k s d may x b f g i j l m = (grind (arith, nat_tests), grind (arith, nat_tests), grind (arith, nat_tests), grind (arith, nat_tests), grind (arith, nat_tests), grind (arith, nat_tests), grind (arith, nat_tests))

pub was-unmake : (n k : ℕ) (s : State) (d : ℕ) → May n k s (Unmake d) → (x b : ℕ) → has_grant (step s (Unmake d)) x b ≡ true → (step s (Unmake d)).early x b ≡ true → (step s (Unmake d)).moment x ≡ true → (step s (Unmake d)).pre x b ≡ false → (step s (Unmake d)).present b ≡ true → (step s (Unmake d)).marked b ≡ false → WasHeld s (step s (Unmake d)) x b
was-unmake n k s d may x b f g i j l m = (grind (arith, nat_tests), grind (arith, nat_tests), grind (arith, nat_tests), grind (arith, nat_tests), grind (arith, nat_tests), grind (arith, nat_tests), grind (arith, nat_tests))

pub was-stop : (n k : ℕ) (s : State) (d : ℕ) → May n k s (Stop d) → (x b : ℕ) → has_grant (step s (Stop d)) x b ≡ true → (step s (Stop d)).early x b ≡ true → (step s (Stop d)).moment x ≡ true → (step s (Stop d)).pre x b ≡ false → (step s (Stop d)).present b ≡ true → (step s (Stop d)).marked b ≡ false → WasHeld s (step s (Stop d)) x b
was-stop n k s d may x b f g i j l m = (grind (arith, nat_tests), grind (arith, nat_tests), grind (arith, nat_tests), grind (arith, nat_tests), grind (arith, nat_tests), grind (arith, nat_tests), grind (arith, nat_tests))

pub was-replace : (n k : ℕ) (s : State) (d : ℕ) → May n k s (Replace d) → (x b : ℕ) → has_grant (step s (Replace d)) x b ≡ true → (step s (Replace d)).early x b ≡ true → (step s (Replace d)).moment x ≡ true → (step s (Replace d)).pre x b ≡ false → (step s (Replace d)).present b ≡ true → (step s (Replace d)).marked b ≡ false → WasHeld s (step s (Replace d)) x b
was-replace n k s d may x b f g i j l m = (grind (arith, nat_tests), grind (arith, nat_tests), grind (arith, nat_tests), grind (arith, nat_tests), grind (arith, nat_tests), grind (arith, nat_tests), grind (arith, nat_tests))

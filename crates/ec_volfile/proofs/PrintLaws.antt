-- The text of a volume is in the grammar and means the volume.
use Rattle.std.proofs.Common.{◌≡◌, ◌≢◌, ◌<◌, ◌≤◌, ◌^◌, ℕ, zero, suc, Bool, true, false, ◌&&◌, not, cond, List, [], ◌∷◌, ◌++◌, length, Some, refl, sym, ap, ◌∙◌, subst, arith, nat_eq}
use Rattle.std.specs.Prelude.{if◌then◌else◌, decimal, codes}
use Rattle.std.specs.List.{AllByRecursion, list_all, flat_map, onto_first}
use Rattle.std.proofs.lemmas.Bool.{ne_eqb, eqb-false, and_parts}
use Rattle.std.proofs.lemmas.List.{append-nil}
use Rattle.ec_attr.specs.declared.policy.Policy.{Policy}
use Rattle.ec_attr.specs.declared.policy.Policy.TheVariants.{RoundRobin, GfidHash}
use Rattle.ec_volfile.specs.declared.volume.Kernel.{Kernel}
use Rattle.ec_volfile.specs.declared.volume.Kernel.TheVariants.{Plain, Fused}
use Rattle.ec_volfile.specs.Lines.{is_blank, lines, words, skip_blanks, trim_end, trim, word_of, after_word}
use Rattle.ec_volfile.specs.Options.{policy_of, eager_of, kernel_of, systematic_of}
use Rattle.ec_volfile.specs.Outline.{Outline}
use Rattle.ec_volfile.specs.Grammar.{is_passed, filled_lines, Item, Sets, Names, Section, AreSections, algorithm_of, disperse_type, Describes, IsVolumeFile}
use Rattle.ec_volfile.specs.Printed.{policy_text, eager_text, kernel_text, rows_text, option_line, spaced_names, printed_lines, ended_line, text_of}
use Rattle.ec_volfile.specs.Volumes.{IsVolume, IsWord, HasWords}
use Rattle.ec_volfile.proofs.WordLemmas.{at_false, words_first}
use Rattle.ec_volfile.proofs.GrammarLaws.{filled-some}
use Rattle.ec_volfile.proofs.ReadLaws.{NoNewline, IsClean}
use Rattle.ec_volfile.proofs.Decimals.{number_of-decimal, cache_of-decimal, window_of-decimal, decimal-clean, decimal-some}

-- lines without newlines are the lines of their text
lines-one : (l rest : List ℕ) → NoNewline l → lines ((l ++ 10 ∷ []) ++ rest) ≡ l ∷ lines rest
lines-one [] rest h = refl
lines-one (b ∷ bs) rest h =
    at_false (nat_eq b 10) ([] ∷ lines ((bs ++ 10 ∷ []) ++ rest)) (onto_first b (lines ((bs ++ 10 ∷ []) ++ rest))) (ne_eqb b 10 h.0)
    ∙ ap (onto_first b) (lines-one bs rest h.1)

lines-all : (ls : List (List ℕ)) → AllByRecursion NoNewline ls → lines (flat_map ended_line ls) ≡ ls
lines-all [] h = refl
lines-all (l ∷ ls) h = lines-one l (flat_map ended_line ls) h.0 ∙ ap (λ (x : List (List ℕ)). l ∷ x) (lines-all ls h.1)

newline-append : (a b : List ℕ) → NoNewline a → NoNewline b → NoNewline (a ++ b)
newline-append [] b h k = k
newline-append (x ∷ a) b h k = (h.0, newline-append a b h.1 k)

not_ten : (b : ℕ) → not (nat_eq b 10) ≡ true → b ≢ 10
not_ten b e = eqb-false b 10 (unnot (nat_eq b 10) e) where
  unnot : (t : Bool) → not t ≡ true → t ≡ false
  unnot true e = sym e
  unnot false e = refl

-- a text that is written out
tested : (l : List ℕ) → list_all (λ b. not (nat_eq b 10)) l ≡ true → NoNewline l
tested [] e = tt
tested (b ∷ bs) e =
    let p = and_parts (not (nat_eq b 10)) (list_all (λ b. not (nat_eq b 10)) bs) e in
    (not_ten b p.0, tested bs p.1)

clean-newline : (w : List ℕ) → IsClean w → NoNewline w
clean-newline [] h = tt
clean-newline (b ∷ bs) h = (h.0.1, clean-newline bs h.1)

-- the words of a text of clean words
word-before : (w rest : List ℕ) → IsClean w → (word_of (w ++ 32 ∷ rest) ≡ w) × (after_word (w ++ 32 ∷ rest) ≡ 32 ∷ rest)
word-before [] rest h = (refl, refl)
word-before (b ∷ bs) rest h =
    let more = word-before bs rest h.1 in (
      at_false (is_blank b) [] (b ∷ word_of (bs ++ 32 ∷ rest)) h.0.0 ∙ ap (λ (x : List ℕ). b ∷ x) more.0,
      at_false (is_blank b) (b ∷ (bs ++ 32 ∷ rest)) (after_word (bs ++ 32 ∷ rest)) h.0.0 ∙ more.1,
    )

word-whole : (w : List ℕ) → IsClean w → (word_of w ≡ w) × (after_word w ≡ [])
word-whole [] h = (refl, refl)
word-whole (b ∷ bs) h =
    let more = word-whole bs h.1 in (
      at_false (is_blank b) [] (b ∷ word_of bs) h.0.0 ∙ ap (λ (x : List ℕ). b ∷ x) more.0,
      at_false (is_blank b) (b ∷ bs) (after_word bs) h.0.0 ∙ more.1,
    )

words-one : (w : List ℕ) → IsWord w → words w ≡ w ∷ []
words-one [] h = absurd (omega (arith, h.some))
words-one (b ∷ bs) h =
    let p = word-whole (b ∷ bs) h.bytes in
    words_first b bs h.bytes.0.0 ∙ (ap (λ (x : List ℕ). x ∷ words (after_word (b ∷ bs))) p.0 ∙ ap (λ (x : List ℕ). (b ∷ bs) ∷ words x) p.1)

words-then : (w rest : List ℕ) → IsWord w → words (w ++ 32 ∷ rest) ≡ w ∷ words rest
words-then [] rest h = absurd (omega (arith, h.some))
words-then (b ∷ bs) rest h =
    let p = word-before (b ∷ bs) rest h.bytes in
    words_first b (bs ++ 32 ∷ rest) h.bytes.0.0 ∙ (ap (λ (x : List ℕ). x ∷ words (after_word (b ∷ (bs ++ 32 ∷ rest)))) p.0 ∙ ap (λ (x : List ℕ). (b ∷ bs) ∷ words x) p.1)

words-spaced : (n : List ℕ) (ns : List (List ℕ)) → IsWord n → AllByRecursion IsWord ns → words (n ++ spaced_names ns) ≡ n ∷ ns
words-spaced n [] h hs = ap words (append-nil n) ∙ words-one n h
words-spaced n (m ∷ ms) h hs = words-then n (m ++ spaced_names ms) h ∙ ap (λ (x : List (List ℕ)). n ∷ x) (words-spaced m ms hs.0 hs.1)

newline-spaced : (ns : List (List ℕ)) → AllByRecursion IsWord ns → NoNewline (spaced_names ns)
newline-spaced [] h = tt
newline-spaced (n ∷ ns) h = (λ e. cc, newline-append n (spaced_names ns) (clean-newline n h.0.bytes) (newline-spaced ns h.1))

-- a value without blanks
skip-clean : (w : List ℕ) → IsClean w → skip_blanks w ≡ w
skip-clean [] h = refl
skip-clean (b ∷ bs) h = at_false (is_blank b) (skip_blanks bs) (b ∷ bs) h.0.0

trim-clean : (w : List ℕ) → IsClean w → trim_end w ≡ w
trim-clean [] h = refl
trim-clean (b ∷ bs) h =
    ap (λ (t : Bool). cond (t && nat_eq (length (trim_end bs)) 0) [] (b ∷ trim_end bs)) h.0.0 ∙ ap (λ (x : List ℕ). b ∷ x) (trim-clean bs h.1)

trimmed-clean : (w : List ℕ) → IsClean w → trim w ≡ w
trimmed-clean w h = ap trim_end (skip-clean w h) ∙ trim-clean w h

-- the values
record IsValue (v : List ℕ) : Type 0 where
  clean : IsClean v
  some : 0 < length v

word-test : List ℕ → Bool
word-test w = list_all (λ b. not (is_blank b) && not (nat_eq b 10)) w

unnot : (t : Bool) → not t ≡ true → t ≡ false
unnot true e = sym e
unnot false e = refl

clean-tested : (w : List ℕ) → list_all (λ b. not (is_blank b) && not (nat_eq b 10)) w ≡ true → IsClean w
clean-tested [] e = tt
clean-tested (b ∷ bs) e =
    let p = and_parts (not (is_blank b) && not (nat_eq b 10)) (list_all (λ b. not (is_blank b) && not (nat_eq b 10)) bs) e in
    let q = and_parts (not (is_blank b)) (not (nat_eq b 10)) p.0 in
    ((unnot (is_blank b) q.0, not_ten b q.1), clean-tested bs p.1)

decimal-value : (n : ℕ) → n < 2 ^ 64 → IsValue (decimal n)
decimal-value n l = record { clean = decimal-clean n l; some = decimal-some n l }

policy-value : (p : Policy) → IsValue (policy_text p)
policy-value RoundRobin = record { clean = clean-tested (codes "round-robin") refl; some = omega arith }
policy-value GfidHash = record { clean = clean-tested (codes "gfid-hash") refl; some = omega arith }

eager-value : (b : Bool) → IsValue (eager_text b)
eager-value true = record { clean = clean-tested (codes "on") refl; some = omega arith }
eager-value false = record { clean = clean-tested (codes "off") refl; some = omega arith }

kernel-value : (k : Kernel) → IsValue (kernel_text k)
kernel-value Plain = record { clean = clean-tested (codes "none") refl; some = omega arith }
kernel-value Fused = record { clean = clean-tested (codes "auto") refl; some = omega arith }

rows-value : (a : ℕ) → IsValue (rows_text a)
rows-value a = elim (nat_eq a 1) as (λ (t : Bool). IsValue (if t then codes "systematic" else codes "plain")) [ true ↦ record { clean = clean-tested (codes "systematic") refl; some = omega arith } | false ↦ record { clean = clean-tested (codes "plain") refl; some = omega arith } ]

policy-again : (p : Policy) → policy_of (policy_text p) ≡ Some p
unfolding policy_of
policy-again RoundRobin = refl
policy-again GfidHash = refl

eager-again : (b : Bool) → eager_of (eager_text b) ≡ Some b
unfolding eager_of
eager-again true = refl
eager-again false = refl

kernel-again : (k : Kernel) → Some (kernel_of (kernel_text k)) ≡ Some k
unfolding kernel_of
kernel-again Plain = refl
kernel-again Fused = refl

rows-again : (a : ℕ) → a ≤ 1 → algorithm_of (rows_text a) ≡ Some a
unfolding systematic_of
rows-again zero l = refl
rows-again (suc zero) l = refl
rows-again (suc (suc a)) l = absurd (omega arith)

option-newline : (key v : List ℕ) → NoNewline key → IsValue v → NoNewline (option_line key v)
option-newline key v h k = newline-append (codes "    option ") (key ++ 32 ∷ v) (tested (codes "    option ") refl) (newline-append key (32 ∷ v) h (λ e. cc, clean-newline v k.clean))

-- the line of the subvolumes
names_line : List (List ℕ) → List ℕ
names_line bricks = codes "    subvolumes" ++ spaced_names bricks

record NamesLine (bricks : List (List ℕ)) : Type 0 where
  passed : is_passed (codes "    subvolumes" ++ spaced_names bricks) ≡ false
  is : words (codes "    subvolumes" ++ spaced_names bricks) ≡ codes "subvolumes" ∷ bricks

names-line : (bricks : List (List ℕ)) → AllByRecursion IsWord bricks → 0 < length bricks → NamesLine bricks
names-line [] h l = absurd (omega arith)
names-line (n ∷ ns) h l = record { passed = refl; is = ap (λ (ws : List (List ℕ)). codes "subvolumes" ∷ ws) (words-spaced n ns h.0 h.1) }

-- the section of the text
abbrev items_of : Outline → List Item
items_of o =
    Sets (codes "redundancy") (decimal o.r)
    ∷ Sets (codes "read-policy") (policy_text o.policy)
    ∷ Sets (codes "eager-lock") (eager_text o.eager)
    ∷ Sets (codes "stripe-cache") (decimal o.cache)
    ∷ Sets (codes "self-heal-window-size") (decimal o.window)
    ∷ Sets (codes "cpu-extensions") (kernel_text o.kernel)
    ∷ Sets (codes "code-rows") (rows_text o.algorithm)
    ∷ Names o.bricks
    ∷ []

abbrev section_of : Outline → Section
section_of o = record { name = o.name; type = disperse_type; items = items_of o }

means : (o : Outline) → IsVolume o → Describes (section_of o) o
means o v = record {
  type = refl;
  name = refl;
  bricks = refl;
  different = v.different;
  count = v.count;
  redundancy = number_of-decimal o.r (omega (arith, v.geometry.majority, v.geometry.bricks));
  algorithm = rows-again o.algorithm v.geometry.known;
  geometry = v.geometry;
  policy = policy-again o.policy;
  eager = eager-again o.eager;
  cache = cache_of-decimal o.cache v.cache;
  window = window_of-decimal o.window v.window_least v.window_most;
  kernel = kernel-again o.kernel;
}

-- the lines before that of the subvolumes
abbrev with_front : Outline → List (List ℕ) → List (List ℕ)
with_front o rest =
    (codes "volume " ++ o.name)
    ∷ codes "    type cluster/disperse"
    ∷ option_line (codes "redundancy") (decimal o.r)
    ∷ option_line (codes "read-policy") (policy_text o.policy)
    ∷ option_line (codes "eager-lock") (eager_text o.eager)
    ∷ option_line (codes "stripe-cache") (decimal o.cache)
    ∷ option_line (codes "self-heal-window-size") (decimal o.window)
    ∷ option_line (codes "cpu-extensions") (kernel_text o.kernel)
    ∷ option_line (codes "code-rows") (rows_text o.algorithm)
    ∷ rest

filled-printed : (o : Outline) → NamesLine o.bricks → filled_lines (printed_lines o) ≡ printed_lines o
filled-printed o n = ap (with_front o) (filled-some (codes "    subvolumes" ++ spaced_names o.bricks) (codes "end-volume" ∷ []) n.passed)

abbrev Values : Outline → Type 0
Values o = IsValue (decimal o.r) × IsValue (decimal o.cache) × IsValue (decimal o.window)

values-of : (o : Outline) → IsVolume o → Values o
values-of o v = (decimal-value o.r (omega (arith, v.geometry.majority, v.geometry.bricks)), decimal-value o.cache (omega (arith, v.cache)), decimal-value o.window (omega (arith, v.window_most)))

is-section : (o : Outline) → IsVolume o → HasWords o → NamesLine o.bricks → AreSections (printed_lines o) (section_of o ∷ [])
is-section o v w n =
    let d = values-of o v in
    let some : 0 < length o.bricks = omega (arith, v.count, v.geometry.majority) in (
      [],
      (
        ap (λ (ws : List (List ℕ)). codes "volume" ∷ ws) (words-one o.name w.name),
        (
          refl,
          (
            (words (decimal o.r), refl, trimmed-clean (decimal o.r) d.0.clean, d.0.some),
            (
              (words (policy_text o.policy), refl, trimmed-clean (policy_text o.policy) (policy-value o.policy).clean, (policy-value o.policy).some),
              (
                (words (eager_text o.eager), refl, trimmed-clean (eager_text o.eager) (eager-value o.eager).clean, (eager-value o.eager).some),
                (
                  (words (decimal o.cache), refl, trimmed-clean (decimal o.cache) d.1.clean, d.1.some),
                  (
                    (words (decimal o.window), refl, trimmed-clean (decimal o.window) d.2.clean, d.2.some),
                    (
                      (words (kernel_text o.kernel), refl, trimmed-clean (kernel_text o.kernel) (kernel-value o.kernel).clean, (kernel-value o.kernel).some),
                      (
                        (words (rows_text o.algorithm), refl, trimmed-clean (rows_text o.algorithm) (rows-value o.algorithm).clean, (rows-value o.algorithm).some),
                        (
                          (n.is, some),
                          (refl, refl),
                        ),
                      ),
                    ),
                  ),
                ),
              ),
            ),
          ),
        ),
      ),
      refl,
    )

no-newlines : (o : Outline) → IsVolume o → HasWords o → AllByRecursion NoNewline (printed_lines o)
no-newlines o v w =
    let d = values-of o v in (
      newline-append (codes "volume ") o.name (tested (codes "volume ") refl) (clean-newline o.name w.name.bytes),
      (
        tested (codes "    type cluster/disperse") refl,
        (
          option-newline (codes "redundancy") (decimal o.r) (tested (codes "redundancy") refl) d.0,
          (
            option-newline (codes "read-policy") (policy_text o.policy) (tested (codes "read-policy") refl) (policy-value o.policy),
            (
              option-newline (codes "eager-lock") (eager_text o.eager) (tested (codes "eager-lock") refl) (eager-value o.eager),
              (
                option-newline (codes "stripe-cache") (decimal o.cache) (tested (codes "stripe-cache") refl) d.1,
                (
                  option-newline (codes "self-heal-window-size") (decimal o.window) (tested (codes "self-heal-window-size") refl) d.2,
                  (
                    option-newline (codes "cpu-extensions") (kernel_text o.kernel) (tested (codes "cpu-extensions") refl) (kernel-value o.kernel),
                    (
                      option-newline (codes "code-rows") (rows_text o.algorithm) (tested (codes "code-rows") refl) (rows-value o.algorithm),
                      (
                        newline-append (codes "    subvolumes") (spaced_names o.bricks) (tested (codes "    subvolumes") refl) (newline-spaced o.bricks w.bricks),
                        (tested (codes "end-volume") refl, tt),
                      ),
                    ),
                  ),
                ),
              ),
            ),
          ),
        ),
      ),
    )

-- the text of a volume means the volume
pub text-means : (o : Outline) (t : List ℕ) → t ≡ text_of o → IsVolume o → HasWords o → length t ≤ 2 ^ 20 → IsVolumeFile t o
unfolding text_of
text-means o t e v w l =
    let n = names-line o.bricks w.bricks (omega (arith, v.count, v.geometry.majority)) in
    let ls : filled_lines (lines t) ≡ printed_lines o = ap filled_lines (ap lines e ∙ lines-all (printed_lines o) (no-newlines o v w)) ∙ filled-printed o n in
    record {
      size = l;
      before = [];
      disperse = section_of o;
      after = [];
      sections = subst (λ (x : List (List ℕ)). AreSections x (section_of o ∷ [])) (sym ls) (is-section o v w n);
      others_before = tt;
      describes = means o v;
      others_after = tt;
    }

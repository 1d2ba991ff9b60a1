-- The named options by their keys.
use Rattle.std.proofs.Common.{◌≡◌, ℕ, Bool, true, false, List, [], ◌∷◌, Option, Some, None, refl, sym, ap, ◌∙◌, subst}
use Rattle.std.specs.Prelude.{bytes_eq, codes, if◌then◌else◌}
use Rattle.std.proofs.lemmas.Slice.Eq.{bytes_eq-Decides}
use Rattle.ec_volfile.specs.declared.options.Key.{Key}
use Rattle.ec_volfile.specs.declared.options.Key.TheVariants.{Redundancy, ReadPolicy, EagerLock, StripeCache, HealWindow, CpuExtensions, CodeRows}
use Rattle.ec_volfile.specs.Options.{key_of}
use Rattle.ec_volfile.specs.Grammar.{Item, Sets, Names, values}

-- the word of a key
abbrev pub text_of : Key → List ℕ
text_of Redundancy = codes "redundancy"
text_of ReadPolicy = codes "read-policy"
text_of EagerLock = codes "eager-lock"
text_of StripeCache = codes "stripe-cache"
text_of HealWindow = codes "self-heal-window-size"
text_of CpuExtensions = codes "cpu-extensions"
text_of CodeRows = codes "code-rows"

abbrev pub is_key : Key → Option Key → Bool
is_key Redundancy (Some Redundancy) = true
is_key Redundancy other = false
is_key ReadPolicy (Some ReadPolicy) = true
is_key ReadPolicy other = false
is_key EagerLock (Some EagerLock) = true
is_key EagerLock other = false
is_key StripeCache (Some StripeCache) = true
is_key StripeCache other = false
is_key HealWindow (Some HealWindow) = true
is_key HealWindow other = false
is_key CpuExtensions (Some CpuExtensions) = true
is_key CpuExtensions other = false
is_key CodeRows (Some CodeRows) = true
is_key CodeRows other = false

is_key-is : (k : Key) (o : Option Key) → is_key k o ≡ true → o ≡ Some k
is_key-is Redundancy (Some Redundancy) e = refl
is_key-is Redundancy other e = cc
is_key-is ReadPolicy (Some ReadPolicy) e = refl
is_key-is ReadPolicy other e = cc
is_key-is EagerLock (Some EagerLock) e = refl
is_key-is EagerLock other e = cc
is_key-is StripeCache (Some StripeCache) e = refl
is_key-is StripeCache other e = cc
is_key-is HealWindow (Some HealWindow) e = refl
is_key-is HealWindow other e = cc
is_key-is CpuExtensions (Some CpuExtensions) e = refl
is_key-is CpuExtensions other e = cc
is_key-is CodeRows (Some CodeRows) e = refl
is_key-is CodeRows other e = cc

is_key-self : (k : Key) → is_key k (Some k) ≡ true
is_key-self Redundancy = refl
is_key-self ReadPolicy = refl
is_key-self EagerLock = refl
is_key-self StripeCache = refl
is_key-self HealWindow = refl
is_key-self CpuExtensions = refl
is_key-self CodeRows = refl

abbrev KeySays : Option Key → List ℕ → Type 0
KeySays None word = Unit {0}
KeySays (Some k) word = word ≡ text_of k

chosen_key : (word : List ℕ) (a b c d e g h : Bool) → (a ≡ true → word ≡ text_of Redundancy) → (b ≡ true → word ≡ text_of ReadPolicy) → (c ≡ true → word ≡ text_of EagerLock) → (d ≡ true → word ≡ text_of StripeCache) → (e ≡ true → word ≡ text_of HealWindow) → (g ≡ true → word ≡ text_of CpuExtensions) → (h ≡ true → word ≡ text_of CodeRows) → KeySays (if a then Some Redundancy else (if b then Some ReadPolicy else (if c then Some EagerLock else (if d then Some StripeCache else (if e then Some HealWindow else (if g then Some CpuExtensions else (if h then Some CodeRows else None))))))) word
chosen_key word true b c d e g h ha hb hc hd he hg hh = ha refl
chosen_key word false true c d e g h ha hb hc hd he hg hh = hb refl
chosen_key word false false true d e g h ha hb hc hd he hg hh = hc refl
chosen_key word false false false true e g h ha hb hc hd he hg hh = hd refl
chosen_key word false false false false true g h ha hb hc hd he hg hh = he refl
chosen_key word false false false false false true h ha hb hc hd he hg hh = hg refl
chosen_key word false false false false false false true ha hb hc hd he hg hh = hh refl
chosen_key word false false false false false false false ha hb hc hd he hg hh = tt

is_text : (word text : List ℕ) → bytes_eq word text ≡ true → word ≡ text
is_text word text = (bytes_eq-Decides word text).0

key_says : (word : List ℕ) → KeySays (key_of word) word
unfolding key_of
key_says word = chosen_key word (bytes_eq word (text_of Redundancy)) (bytes_eq word (text_of ReadPolicy)) (bytes_eq word (text_of EagerLock)) (bytes_eq word (text_of StripeCache)) (bytes_eq word (text_of HealWindow)) (bytes_eq word (text_of CpuExtensions)) (bytes_eq word (text_of CodeRows)) (is_text word (text_of Redundancy)) (is_text word (text_of ReadPolicy)) (is_text word (text_of EagerLock)) (is_text word (text_of StripeCache)) (is_text word (text_of HealWindow)) (is_text word (text_of CpuExtensions)) (is_text word (text_of CodeRows))

key_of-text : (k : Key) → key_of (text_of k) ≡ Some k
unfolding key_of
key_of-text Redundancy = refl
key_of-text ReadPolicy = refl
key_of-text EagerLock = refl
key_of-text StripeCache = refl
key_of-text HealWindow = refl
key_of-text CpuExtensions = refl
key_of-text CodeRows = refl

same : (a b : Bool) → (a ≡ true → b ≡ true) → (b ≡ true → a ≡ true) → a ≡ b
same true b f g = sym (f refl)
same false true f g = g refl
same false false f g = refl

-- a word is the word of a key exactly where it names it
key_test : (word : List ℕ) (k : Key) → bytes_eq word (text_of k) ≡ is_key k (key_of word)
key_test word k = same (bytes_eq word (text_of k)) (is_key k (key_of word))
    (λ h. ap (is_key k) (ap key_of (is_text word (text_of k) h) ∙ key_of-text k) ∙ is_key-self k)
    (λ h. (bytes_eq-Decides word (text_of k)).1 (subst (λ (o : Option Key). KeySays o word) (is_key-is k (key_of word) h) (key_says word)))

-- the values before those of the other items
abbrev pub with_value : Key → Option Key → List ℕ → List (List ℕ) → List (List ℕ)
with_value k o value more = if is_key k o then value ∷ more else more

abbrev pub key_values : List Item → Key → List (List ℕ)
key_values [] k = []
key_values (Sets key value ∷ items) k = with_value k (key_of key) value (key_values items k)
key_values (Names names ∷ items) k = key_values items k

pub values-by_key : (k : Key) (items : List Item) → values (text_of k) items ≡ key_values items k
values-by_key k [] = refl
values-by_key k (Sets key value ∷ items) =
    ap (λ (t : Bool). if t then value ∷ values (text_of k) items else values (text_of k) items) (key_test key k)
    ∙ ap (λ (vs : List (List ℕ)). if is_key k (key_of key) then value ∷ vs else vs) (values-by_key k items)
values-by_key k (Names names ∷ items) = values-by_key k items

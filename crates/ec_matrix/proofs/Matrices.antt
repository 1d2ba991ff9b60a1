-- Linear algebra over sums of products. A row is a function of the column, a matrix one of row and column.
use Rattle.std.proofs.Common.{◌≡◌, ℕ, ◌<◌, refl, ap, sym, ◌∙◌, lit<, inl, inr}
use Rattle.std.specs.Prelude.{bit_xor}
use Rattle.std.proofs.lemmas.Bool.{eq-eqb, ne_eqb, cases_eq}
use Rattle.std.specs.Int.Bits.{xor_zero_r, xor_self}
use Rattle.std.proofs.lemmas.Nat.{xor_lt}
use Rattle.ec_field.specs.Field.{sum_below, product, kronecker, IsByte}
use Rattle.ec_field.proofs.Sums.{sum_ext, sum_xor, sum_lt, sum_swap, sum_single, xor_cancel}
use Rattle.ec_field.proofs.Products.{product-right, product-sum_left, product-sum_right, product-zero_left, product-zero_right, product_assoc, product_one, one_product, product_is_byte}

-- each entry of the row is a byte
abbrev pub ByteRow : ℕ → (ℕ → ℕ) → Type 0
ByteRow n f = (i : ℕ) → i < n → IsByte (f i)

-- each entry of the square matrix is a byte
abbrev pub ByteMatrix : ℕ → (ℕ → ℕ → ℕ) → Type 0
ByteMatrix n a = (i j : ℕ) → i < n → j < n → IsByte (a i j)

-- the product of two matrices
abbrev pub times : ℕ → (ℕ → ℕ → ℕ) → (ℕ → ℕ → ℕ) → ℕ → ℕ → ℕ
times n a b i j = sum_below n (λ m. product (a i m) (b m j))

-- a product that is the identity
abbrev pub IsIdentity : ℕ → (ℕ → ℕ → ℕ) → (ℕ → ℕ → ℕ) → Type 0
IsIdentity n a b = (i j : ℕ) → i < n → j < n → times n a b i j ≡ kronecker i j

pub sum_is_byte : (n : ℕ) (f : ℕ → ℕ) → ByteRow n f → IsByte (sum_below n f)
sum_is_byte n f h = sum_lt 8 n f h

pub row_times_is_byte : (n : ℕ) (a b : ℕ → ℕ) → ByteRow n a → ByteRow n b → IsByte (sum_below n (λ i. product (a i) (b i)))
row_times_is_byte n a b p q = sum_is_byte n (λ i. product (a i) (b i)) (λ i l. product_is_byte (a i) (b i) (p i l) (q i l))

pub times_is_byte : (n : ℕ) (a b : ℕ → ℕ → ℕ) → ByteMatrix n a → ByteMatrix n b → ByteMatrix n (times n a b)
times_is_byte n a b p q i j h l = row_times_is_byte n (a i) (λ m. b m j) (λ m k. p i m h k) (λ m k. q m j k l)

pub kronecker_same : (i j : ℕ) → i ≡ j → kronecker i j ≡ 1
kronecker_same i j e = rw (eq-eqb i j e) refl

pub kronecker_other : (i j : ℕ) → (i ≡ j → ⊥) → kronecker i j ≡ 0
kronecker_other i j d = rw (ne_eqb i j d) refl

pub kronecker_is_byte : (i j : ℕ) → IsByte (kronecker i j)
kronecker_is_byte i j = elim (cases_eq i j) [ inl e ↦ rw (kronecker_same i j e) (lit< tt) | inr d ↦ rw (kronecker_other i j d) (lit< tt) ]

-- a row times the identity, on either side
pub identity_times : (n m : ℕ) (f : ℕ → ℕ) → ByteRow n f → m < n → sum_below n (λ j. product (kronecker m j) (f j)) ≡ f m
identity_times n m f h l =
    sum_single n m (λ j. product (kronecker m j) (f j)) l (λ j k d. rw (kronecker_other m j (λ e. d (sym e))) (product-zero_left (f j)))
    ∙ rw (kronecker_same m m refl) (one_product (f m) (h m l))

pub times_identity : (n m : ℕ) (f : ℕ → ℕ) → ByteRow n f → m < n → sum_below n (λ j. product (f j) (kronecker j m)) ≡ f m
times_identity n m f h l =
    sum_single n m (λ j. product (f j) (kronecker j m)) l (λ j k d. rw (kronecker_other j m d) (product-zero_right (f j)))
    ∙ rw (kronecker_same m m refl) (product_one (f m) (h m l))

-- a row times a matrix times a column, in either order
pub times_assoc : (n : ℕ) (a : ℕ → ℕ) (b : ℕ → ℕ → ℕ) (c : ℕ → ℕ) → ByteRow n a → ByteMatrix n b → ByteRow n c
    → sum_below n (λ j. product (sum_below n (λ i. product (a i) (b i j))) (c j)) ≡ sum_below n (λ i. product (a i) (sum_below n (λ j. product (b i j) (c j))))
times_assoc n a b c p q r =
    sum_ext n (λ j. product (sum_below n (λ i. product (a i) (b i j))) (c j)) (λ j. sum_below n (λ i. product (a i) (product (b i j) (c j))))
    (λ j l. product-sum_left n (λ i. product (a i) (b i j)) (c j)
    ∙ sum_ext n (λ i. product (product (a i) (b i j)) (c j)) (λ i. product (a i) (product (b i j) (c j)))
    (λ i h. product_assoc (a i) (b i j) (c j) (p i h) (q i j h l) (r j l)))
    ∙ sum_swap n n (λ j i. product (a i) (product (b i j) (c j)))
    ∙ sum_ext n (λ i. sum_below n (λ j. product (a i) (product (b i j) (c j)))) (λ i. product (a i) (sum_below n (λ j. product (b i j) (c j))))
    (λ i h. sym (product-sum_right (a i) n (λ j. product (b i j) (c j))))

-- equal entries give equal sums
pub times_same : (n : ℕ) (a b c d : ℕ → ℕ) → ((i : ℕ) → i < n → a i ≡ b i) → ((i : ℕ) → i < n → c i ≡ d i)
    → sum_below n (λ i. product (a i) (c i)) ≡ sum_below n (λ i. product (b i) (d i))
times_same n a b c d e f = sum_ext n (λ i. product (a i) (c i)) (λ i. product (b i) (d i)) (λ i l. rw (e i l, f i l) refl)

pub same_from_xor : (a b : ℕ) → bit_xor a b ≡ 0 → a ≡ b
same_from_xor a b e = sym (xor_zero_r a) ∙ ap (bit_xor a) (sym e) ∙ xor_cancel a b

-- a column that the rows send to 0 is 0
abbrev pub SendsNoneToZero : ℕ → (ℕ → ℕ → ℕ) → Type 0
SendsNoneToZero n a = (x : ℕ → ℕ) → ByteRow n x → ((i : ℕ) → i < n → sum_below n (λ j. product (a i j) (x j)) ≡ 0) → (j : ℕ) → j < n → x j ≡ 0

-- where no column but 0 is sent to 0, an inverse on the right is one on the left
pub left_from_right : (n : ℕ) (a b : ℕ → ℕ → ℕ) → ByteMatrix n a → ByteMatrix n b → SendsNoneToZero n a → IsIdentity n a b → IsIdentity n b a
left_from_right n a b p q none right m j h l =
    let x : ℕ → ℕ = λ i. bit_xor (times n b a i j) (kronecker i j) in
    let bytes : ByteRow n x = λ i k. xor_lt 8 (times n b a i j) (kronecker i j) (times_is_byte n b a q p i j k l) (kronecker_is_byte i j) in
    same_from_xor (times n b a m j) (kronecker m j) (none x bytes (λ i k. sent_to_zero n a b p q right i j k l) m h)
  where
    sent_to_zero : (n : ℕ) (a b : ℕ → ℕ → ℕ) → ByteMatrix n a → ByteMatrix n b → IsIdentity n a b → (i j : ℕ) → i < n → j < n
        → sum_below n (λ m. product (a i m) (bit_xor (times n b a m j) (kronecker m j))) ≡ 0
    sent_to_zero n a b p q right i j h l =
        sum_ext n (λ m. product (a i m) (bit_xor (times n b a m j) (kronecker m j))) (λ m. bit_xor (product (a i m) (times n b a m j)) (product (a i m) (kronecker m j)))
        (λ m k. (product-right (a i m)).xor (times n b a m j) (kronecker m j))
        ∙ sum_xor n (λ m. product (a i m) (times n b a m j)) (λ m. product (a i m) (kronecker m j))
        ∙ rw (
          ← times_assoc n (a i) b (λ m. a m j) (λ m k. p i m h k) q (λ m k. p m j k l),
          times_same n (λ m. times n a b i m) (kronecker i) (λ m. a m j) (λ m. a m j) (λ m k. right i m h k) (λ m k. refl),
          identity_times n i (λ m. a m j) (λ m k. p m j k l) h,
          times_identity n j (a i) (λ m k. p i m h k) l,
        ) (xor_self (a i j))

-- a row times a matrix and its inverse
pub times_back : (n : ℕ) (p : ℕ → ℕ) (a b : ℕ → ℕ → ℕ) → ByteRow n p → ByteMatrix n a → ByteMatrix n b → IsIdentity n a b
    → (j : ℕ) → j < n → sum_below n (λ i. product (sum_below n (λ m. product (p m) (a m i))) (b i j)) ≡ p j
times_back n p a b h q r id j l =
    times_assoc n p a (λ i. b i j) h q (λ i k. r i j k l)
    ∙ times_same n p p (λ m. times n a b m j) (λ m. kronecker m j) (λ m k. refl) (λ m k. id m j k l)
    ∙ times_identity n j p h l

-- the row that a matrix turns into p is p times the inverse
pub only_row : (n : ℕ) (r p : ℕ → ℕ) (a b : ℕ → ℕ → ℕ) → ByteRow n r → ByteMatrix n a → ByteMatrix n b → IsIdentity n a b
    → ((j : ℕ) → j < n → sum_below n (λ i. product (r i) (a i j)) ≡ p j) → (j : ℕ) → j < n → r j ≡ sum_below n (λ m. product (p m) (b m j))
only_row n r p a b h q s id e j l =
    sym (times_back n r a b h q s id j l)
    ∙ times_same n (λ m. sum_below n (λ i. product (r i) (a i m))) p (λ m. b m j) (λ m. b m j) e (λ m k. refl)

-- Rows r that a matrix p turns into rows s: where v is the inverse of s, p times v is that of r.
pub changed_right : (n : ℕ) (p s v r : ℕ → ℕ → ℕ) → ByteMatrix n p → ByteMatrix n v → ByteMatrix n r → IsIdentity n s v
    → ((i j : ℕ) → i < n → j < n → times n r p i j ≡ s i j) → IsIdentity n r (times n p v)
changed_right n p s v r hp hv hr id e i j k l =
    sym (times_assoc n (r i) p (λ m. v m j) (λ m h. hr i m k h) hp (λ m h. hv m j h l))
    ∙ times_same n (λ m. times n r p i m) (s i) (λ m. v m j) (λ m. v m j) (λ m h. e i m k h) (λ m h. refl)
    ∙ id i j k l

pub changed_left : (n : ℕ) (p a s v r : ℕ → ℕ → ℕ) → ByteMatrix n p → ByteMatrix n a → ByteMatrix n s → ByteMatrix n v → ByteMatrix n r
    → IsIdentity n p a → IsIdentity n v s → ((i j : ℕ) → i < n → j < n → times n r p i j ≡ s i j) → IsIdentity n (times n p v) r
changed_left n p a s v r hp ha hs hv hr back id e i j k l =
    let inner : (m : ℕ) → m < n → sum_below n (λ q. product (v m q) (r q j)) ≡ a m j =
    λ m h. times_same n (v m) (v m) (λ q. r q j) (λ q. times n s a q j) (λ q f. refl) (λ q f. only_row n (r q) (s q) p a (λ x g. hr q x f g) hp ha back (λ x g. e q x f g) j l)
    ∙ sym (times_assoc n (v m) s (λ x. a x j) (λ q f. hv m q h f) hs (λ x f. ha x j f l))
    ∙ times_same n (λ x. times n v s m x) (kronecker m) (λ x. a x j) (λ x. a x j) (λ x f. id m x h f) (λ x f. refl)
    ∙ identity_times n m (λ x. a x j) (λ x f. ha x j f l) h in
    times_assoc n (p i) v (λ q. r q j) (λ m h. hp i m k h) hv (λ q h. hr q j h l)
    ∙ times_same n (p i) (p i) (λ m. sum_below n (λ q. product (v m q) (r q j))) (λ m. a m j) (λ m h. refl) inner
    ∙ back i j k l

-- The readings of a file and of a directory fit what bricks do.
use Rattle.std.proofs.Common.{◌≡◌, ℕ, zero, suc, ◌+◌, ◌-◌, ◌*◌, ◌<◌, ◌≤◌, Bool, true, false, not, cond, ◌==◌, ◌&&◌, Option, Some, None, List, [], ◌∷◌, ◌++◌, length, slice_index, refl, sym, ◌∙◌, ap, arith}
use Rattle.std.specs.Prelude.{nat_le, nat_lt}
use Rattle.std.proofs.lemmas.Bool.Decides.{nat_tests}
use Rattle.ec_attr.specs.declared.gfid.Gfid.{Gfid}
use Rattle.ec_store.specs.Records.{Record, kept, over, with_bytes, with_length}
use Rattle.ec_brick.specs.Work.{bytes_of, unset, with_unset}
use Rattle.ec_history.specs.Story.{is_among}
use Rattle.ec_wire.specs.declared.request.Request.{Request}
use Rattle.ec_wire.specs.declared.request.Request.TheVariants.{Ask, Release, Query, PreOp, ReadChunks, WriteChunks, SetLength, PostOp, Clear, NameGet, NamesAfter, NameSet, NamesPut, Make, Made, Unmake, Mark, Unmark, GfidsAfter}
use Rattle.ec_law_data.specs.Forms.{CodesZeros, Coder, byte_put, first_bytes, is_data, is_naming, of_directory, of_file, piece_of, zero_stripe}
use Rattle.ec_law_data.specs.Link.{Fits, IsBeside, IsWhole, IsWriter, left_by}

equals : (x y : ℕ) → (x == y) ≡ true → x ≡ y
equals x y e = grind (arith, nat_tests)

same_number : (x : ℕ) → (x == x) ≡ true
same_number x = grind (arith, nat_tests)

-- bytes that are alike one by one
firsts_alike : (n : ℕ) (f h : ℕ → Option ℕ) → ((i : ℕ) → i < n → f i ≡ h i) → first_bytes n f ≡ first_bytes n h
unfolding first_bytes
firsts_alike zero f h same = refl
firsts_alike (suc n) f h same = ap (λ (z : List (Option ℕ)). z ++ f n ∷ []) (firsts_alike n f h (λ i lt. same i (omega (arith, lt)))) ∙ ap (λ (x : Option ℕ). first_bytes n h ++ x ∷ []) (same n (omega arith))

pub alike : (f h : ℕ → Option ℕ) → ((i : ℕ) → i < 512 → f i ≡ h i) → piece_of f ≡ piece_of h
alike f h same = firsts_alike 512 f h same

data_writers : (g : ℕ) (q : Request) → is_data g q ≡ true → IsWriter g q
data_writers g (Ask x domain kind) e = absurd (cc)
data_writers g (Release x n) e = absurd (cc)
data_writers g (Query x n) e = absurd (cc)
data_writers g (PreOp x n at dirty) e = absurd (cc)
data_writers g (ReadChunks x n first count) e = absurd (cc)
data_writers g (WriteChunks x n first chunks) e = equals x.0 g e
data_writers g (SetLength x n keep count) e = equals x.0 g e
data_writers g (PostOp x n at version size attr) e = absurd (cc)
data_writers g (Clear x n at) e = absurd (cc)
data_writers g (NameGet x n name) e = absurd (cc)
data_writers g (NamesAfter x n start) e = absurd (cc)
data_writers g (NameSet x n name child) e = absurd (cc)
data_writers g (NamesPut x n start upto list) e = absurd (cc)
data_writers g (Make x n child) e = absurd (cc)
data_writers g (Made x n child) e = absurd (cc)
data_writers g (Unmake x n child) e = absurd (cc)
data_writers g (Mark x n heal head) e = absurd (cc)
data_writers g (Unmark x n at dirty) e = absurd (cc)
data_writers g (GfidsAfter start dirty) e = absurd (cc)

naming_writers : (g : ℕ) (q : Request) → is_naming g q ≡ true → IsWriter g q
naming_writers g (Ask x domain kind) e = absurd (cc)
naming_writers g (Release x n) e = absurd (cc)
naming_writers g (Query x n) e = absurd (cc)
naming_writers g (PreOp x n at dirty) e = absurd (cc)
naming_writers g (ReadChunks x n first count) e = absurd (cc)
naming_writers g (WriteChunks x n first chunks) e = absurd (cc)
naming_writers g (SetLength x n keep count) e = absurd (cc)
naming_writers g (PostOp x n at version size attr) e = absurd (cc)
naming_writers g (Clear x n at) e = absurd (cc)
naming_writers g (NameGet x n name) e = absurd (cc)
naming_writers g (NamesAfter x n start) e = absurd (cc)
naming_writers g (NameSet x n name child) e = equals x.0 g e
naming_writers g (NamesPut x n start upto list) e = equals x.0 g e
naming_writers g (Make x n child) e = absurd (cc)
naming_writers g (Made x n child) e = absurd (cc)
naming_writers g (Unmake x n child) e = absurd (cc)
naming_writers g (Mark x n heal head) e = absurd (cc)
naming_writers g (Unmark x n at dirty) e = absurd (cc)
naming_writers g (GfidsAfter start dirty) e = absurd (cc)

-- ## A file

-- whether a byte of a stripe lies in a range of bytes that begins with a stripe
inside_range : (first count len s i : ℕ) → i < 512 → len ≡ 512 * count → is_among first count s ≡ true → (nat_lt i 512 && nat_le (512 * first) (512 * s + i) && nat_lt (512 * s + i) (512 * first + len)) ≡ true
inside_range first count len s i lt e is = grind (arith, nat_tests)

outside_range : (first count len s i : ℕ) → i < 512 → len ≤ 512 * count → is_among first count s ≡ false → (nat_lt i 512 && nat_le (512 * first) (512 * s + i) && nat_lt (512 * s + i) (512 * first + len)) ≡ false
outside_range first count len s i lt e is = grind (arith, nat_tests)

module _ (k : ℕ) (coder : Coder) (zeros : CodesZeros k coder) where
  file_bytes : (x : Gfid) (n first : ℕ) (chunks : List (List ℕ)) (r : Record) (s : ℕ) → IsWhole (WriteChunks x n first chunks) → piece_of ((with_bytes r (512 * first) (bytes_of chunks)).piece s) ≡ left_by (of_file k coder) x.0 (WriteChunks x n first chunks) s (piece_of (r.piece s))
  file_bytes x n first chunks r s whole = at (is_among first (length chunks) s) refl ∙ ap (λ (t : Bool). cond (t && is_among first (length chunks) s) (piece_of (byte_put (WriteChunks x n first chunks) s)) (piece_of (r.piece s))) (sym (same_number x.0))
    where
      at : (t : Bool) → is_among first (length chunks) s ≡ t → piece_of (over r.piece (512 * first) (bytes_of chunks) s) ≡ cond (is_among first (length chunks) s) (piece_of (byte_put (WriteChunks x n first chunks) s)) (piece_of (r.piece s))
      at true e = alike (over r.piece (512 * first) (bytes_of chunks) s) (byte_put (WriteChunks x n first chunks) s) (λ i lt. ap (λ (t : Bool). cond t (Some (slice_index (bytes_of chunks) (512 * s + i - 512 * first))) (r.piece s i)) (inside_range first (length chunks) (length (bytes_of chunks)) s i lt whole e)) ∙ ap (λ (t : Bool). cond t (piece_of (byte_put (WriteChunks x n first chunks) s)) (piece_of (r.piece s))) (sym e)
      at false e = alike (over r.piece (512 * first) (bytes_of chunks) s) (r.piece s) (λ i lt. ap (λ (t : Bool). cond t (Some (slice_index (bytes_of chunks) (512 * s + i - 512 * first))) (r.piece s i)) (outside_range first (length chunks) (length (bytes_of chunks)) s i lt (omega (arith, whole)) e)) ∙ ap (λ (t : Bool). cond t (piece_of (byte_put (WriteChunks x n first chunks) s)) (piece_of (r.piece s))) (sym e)

  file_unset : (x : Gfid) (n first count : ℕ) (chunks : List (List ℕ)) (r : Record) (s : ℕ) → count ≤ 512 * length chunks → IsBeside (of_file k coder) x.0 (WriteChunks x n first chunks) s → piece_of ((with_unset r (512 * first) count).piece s) ≡ piece_of (r.piece s)
  file_unset x n first count chunks r s le e = alike (unset r.piece (512 * first) count s) (r.piece s) (λ i lt. ap (λ (t : Bool). cond t None (r.piece s i)) (outside_range first (length chunks) count s i lt le (sym (ap (λ (t : Bool). t && is_among first (length chunks) s) (same_number x.0)) ∙ e)))

  file_cut : (x : Gfid) (n keep count : ℕ) (r : Record) (s : ℕ) → piece_of ((with_length r keep count).piece s) ≡ left_by (of_file k coder) x.0 (SetLength x n keep count) s (piece_of (r.piece s))
  file_cut x n keep count r s = at (nat_lt s keep && nat_lt s count) refl ∙ ap (λ (t : Bool). cond (t && not (nat_lt s keep && nat_lt s count)) (piece_of (byte_put (SetLength x n keep count) s)) (piece_of (r.piece s))) (sym (same_number x.0))
    where
      at : (t : Bool) → (nat_lt s keep && nat_lt s count) ≡ t → piece_of (kept r.piece keep count s) ≡ cond (not (nat_lt s keep && nat_lt s count)) (piece_of (byte_put (SetLength x n keep count) s)) (piece_of (r.piece s))
      at true e = alike (kept r.piece keep count s) (r.piece s) (λ i lt. ap (λ (t : Bool). cond t (r.piece s i) (Some 0)) e) ∙ ap (λ (t : Bool). cond (not t) (piece_of (byte_put (SetLength x n keep count) s)) (piece_of (r.piece s))) (sym e)
      at false e = alike (kept r.piece keep count s) (λ i. Some 0) (λ i lt. ap (λ (t : Bool). cond t (r.piece s i) (Some 0)) e) ∙ ap (λ (t : Bool). cond (not t) (piece_of (byte_put (SetLength x n keep count) s)) (piece_of (r.piece s))) (sym e)

  pub file_fits : Fits (of_file k coder)
  file_fits = record {
    writers = data_writers;
    headed = λ r h p. refl;
    made = λ h p b. alike (λ i. Some 0) (λ i. Some (coder (zero_stripe k) b i)) (λ i lt. ap (λ (y : ℕ). Some y) (sym (zeros b i lt)));
    bytes = file_bytes;
    unset = file_unset;
    cut = file_cut;
    name = λ x n name child r p. refl;
    names = λ x n start upto list r p e. refl;
  }

-- ## A directory

pub directory_fits : Fits of_directory
directory_fits = record {
  writers = naming_writers;
  headed = λ r h p. refl;
  made = λ h p b. refl;
  bytes = λ x n first chunks r p w. refl;
  unset = λ x n first count chunks r p le e. refl;
  cut = λ x n keep count r p. refl;
  name = λ x n name child r p. ap (λ (t : Bool). cond (t && of_directory.writes x.0 (NameSet x n name child) p) child (r.names p)) (sym (same_number x.0));
  names = λ x n start upto list r p e. absurd (let y = sym (ap (λ (t : Bool). t && true) (same_number x.0)) ∙ e in cc);
}

-- What a run says of its volume file, told or not.
use Rattle.std.proofs.Common.{◌≡◌, ◌≢◌, ◌<◌, ◌≤◌, ◌^◌, ℕ, ◌+◌, ◌++◌, ◌⊎◌, inl, inr, Bool, true, false, cond, ◌==◌, nat_lt, Less, Equal, Greater, List, Option, Some, None, length, refl, sym, ap, subst, ◌∙◌, append-nil, length-append, arith}
use Rattle.std.proofs.lemmas.Bool.Decides.{nat_tests}
use Rattle.std.specs.Ordering.{is_lt, nat_cmp, ord_min}
use Rattle.std.specs.Prelude.{IfSome}
use Rattle.std.specs.Io.KnownBytes.{Consumes, IsAtEnd}
use Rattle.ec_volfile.specs.declared.fault.VolumeFault.{VolumeFault}
use Rattle.ec_volfile.specs.declared.fault.VolumeFault.TheVariants as fault
use Rattle.ec_volfile.specs.Faults.{IsFirstFault, IsFirstFaultOrNoMemory}
use Rattle.ec_volfile.specs.Grammar.{IsVolumeFile}
use Rattle.ec_volfile.specs.Outline.{Outline}
use Rattle.ec_run.specs.declared.volume.VolumeError.{VolumeError}
use Rattle.ec_run.specs.declared.volume.VolumeError.TheVariants.{ReadFault, Refused, NoMemory}
use Rattle.ec_run.specs.VolumeText.{IsTextOf, IsRefusedFor}

-- all that was left was read
pub whole_text : (left now : Option (List ℕ)) (bytes : List ℕ) → Consumes left now bytes → IsAtEnd now → IsTextOf left bytes
whole_text None now bytes taken end = tt
whole_text (Some text) None bytes taken end = absurd taken
whole_text (Some text) (Some rest) bytes taken end = inl (taken ∙ ap (λ xs. bytes ++ xs) end ∙ append-nil bytes)

-- a byte more was read than there may be
pub long_text : (left now : Option (List ℕ)) (bytes : List ℕ) → Consumes left now bytes → 2 ^ 20 < length bytes → IsTextOf left bytes
long_text None now bytes taken more = tt
long_text (Some text) None bytes taken more = absurd taken
long_text (Some text) (Some rest) bytes taken more =
    let size : length text ≡ length bytes + length rest = ap length taken ∙ length-append bytes rest in
    inr (omega (arith, size, more), more)

-- the volume that was read is that of the text
pub found_volume : (left : Option (List ℕ)) (bytes : List ℕ) (o : Outline) → IsTextOf left bytes → IsVolumeFile bytes o → IfSome left (λ text. IsVolumeFile text o)
found_volume None bytes o text is = tt
found_volume (Some all) bytes o (inl same) is = rw same is
found_volume (Some all) bytes o (inr more) is = absurd (omega (arith, more.1, is.size))

-- of a text that is too long this is said, whatever follows
first_of_long : (bytes all : List ℕ) (n : ℕ) (e : VolumeFault) → 2 ^ 20 < length bytes → 2 ^ 20 < length all → IsFirstFault bytes n e → IsFirstFault all n e
first_of_long bytes all n e long more (inl h) = inl (more, h.1, h.2)
first_of_long bytes all n e long more (inr h) = absurd (omega (arith, long, h.0))

-- a fault but for want of memory
pub first_but_memory : (bytes : List ℕ) (n : ℕ) (e : VolumeFault) → e ≢ fault.NoMemory → IsFirstFaultOrNoMemory bytes n e → IsFirstFault bytes n e
first_but_memory bytes n fault.TooLong other first = first
first_but_memory bytes n fault.BadLine other first = first
first_but_memory bytes n fault.Twice other first = first
first_but_memory bytes n fault.BadValue other first = first
first_but_memory bytes n fault.TwoDisperse other first = first
first_but_memory bytes n fault.NoRedundancy other first = first
first_but_memory bytes n (fault.BadGeometry count redundancy) other first = first
first_but_memory bytes n fault.NoEnd other first = first
first_but_memory bytes n fault.NoDisperse other first = first
first_but_memory bytes n fault.NoMemory other first = absurd (other refl)

-- the refusal is that of the text
refused_text : (bytes all : List ℕ) (e : VolumeError) → 2 ^ 20 < length bytes → 2 ^ 20 < length all → IsRefusedFor bytes e → IsRefusedFor all e
refused_text bytes all ReadFault long more is = tt
refused_text bytes all (Refused line why) long more is = first_of_long bytes all line why long more is
refused_text bytes all NoMemory long more is = tt

pub found_refused : (left : Option (List ℕ)) (bytes : List ℕ) (e : VolumeError) → IsTextOf left bytes → IsRefusedFor bytes e → IfSome left (λ text. IsRefusedFor text e)
found_refused None bytes e text is = tt
found_refused (Some all) bytes e (inl same) is = subst (λ text. IsRefusedFor text e) (sym same) is
found_refused (Some all) bytes e (inr more) is = refused_text bytes all e more.1 more.0 is

-- a fault that says nothing of the text
pub refused_any : (left : Option (List ℕ)) (e : VolumeError) → (e ≡ ReadFault) ⊎ (e ≡ NoMemory) → IfSome left (λ text. IsRefusedFor text e)
refused_any None e is = tt
refused_any (Some text) e (inl is) = rw is tt
refused_any (Some text) e (inr is) = rw is tt

-- what is said of every text
pub told_all : (left input : Option (List ℕ)) (Q : List ℕ → List ℕ → Type 0) → ((file xs : List ℕ) → Q file xs) → IfSome left (λ file. IfSome input (Q file))
told_all None input Q make = tt
told_all (Some file) None Q make = tt
told_all (Some file) (Some xs) Q make = make file xs

-- what is said where both texts are told
pub told : (left input : Option (List ℕ)) (P : List ℕ → Type 0) (Q : List ℕ → List ℕ → Type 0) → IfSome left P → ((file xs : List ℕ) → P file → Q file xs) → IfSome left (λ file. IfSome input (Q file))
told None input P Q h make = tt
told (Some file) None P Q h make = tt
told (Some file) (Some xs) P Q h make = make file xs h

-- the same, of what the script says besides
pub told_both : (left input : Option (List ℕ)) (P R : List ℕ → Type 0) (Q : List ℕ → List ℕ → Type 0) → IfSome left P → IfSome input R → ((file xs : List ℕ) → P file → R xs → Q file xs)
    → IfSome left (λ file. IfSome input (Q file))
told_both None input P R Q h k make = tt
told_both (Some file) None P R Q h k make = tt
told_both (Some file) (Some xs) P R Q h k make = make file xs h k

-- the lesser of two numbers is at most the first
pub least : (a b : ℕ) → ord_min nat_cmp a b ≤ a
least a b = at (nat_lt b a) (b == a) refl
  where
    at : (t u : Bool) → nat_lt b a ≡ t → cond (is_lt (cond t Less (cond u Equal Greater))) b a ≤ a
    at true u e = grind (arith, nat_tests)
    at false true e = omega arith
    at false false e = omega arith

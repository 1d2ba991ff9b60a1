-- Histories of a scrub that settles, and of a full sweep.
use Rattle.std.proofs.Common.{◌≡◌, ℕ, true, refl, sym, subst, lit≤, List, [], ◌∷◌, Some}
use Rattle.ec_attr.specs.declared.kind.Kind.TheVariants.{File}
use Rattle.ec_attr.specs.declared.kind.LockKind.TheVariants.{Exclusive, Shared}
use Rattle.ec_field.specs.Code.{IsCode}
use Rattle.ec_wire.specs.declared.op.Op.TheVariants.{Scrub, Sweep}
use Rattle.ec_wire.specs.declared.request.Request.TheVariants.{Unmake}
use Rattle.ec_conduct.specs.Changes.{IsSettling}
use Rattle.ec_conduct.specs.Conduct.{MaySend}
use Rattle.ec_conduct.specs.Examples.{IsOneStripe, begun, directory, file, name_f, scanned, shedding, write_of}
use Rattle.ec_conduct.specs.Opened.{account}
use Rattle.ec_conduct.proofs.Examples.{each}
use Rattle.ec_conduct.proofs.Refusals.{differ}

same_chunk : (a b : List ℕ) → Some a ≡ Some b → a ≡ b
same_chunk a b e = cc

-- a brick's chunk is the code that it gave
given_code : (x : ℕ) (stripe : List (List ℕ)) (a b : List ℕ) → IsCode 2 0 x stripe a → Some a ≡ Some b → IsCode 2 0 x stripe b
given_code x stripe a b c e = subst (λ chunk. IsCode 2 0 x stripe chunk) (same_chunk a b e) c

pub good_stripe_refused : (bytes : List ℕ) (stripe : List (List ℕ)) (code : ℕ → List ℕ) → IsOneStripe bytes stripe code → IsSettling (account (begun (Scrub file true)) (scanned code)) 2 1024 (write_of 0 ([] ∷ []) ∷ []) → ⊥
good_stripe_refused bytes stripe code h settling =
    (settling.bad 0 (lit≤ tt)).0 refl stripe h.stripe_is
    (each _ (λ chunk e. given_code 0 stripe (code 0) chunk (h.codes 0 (lit≤ tt)) e) (λ chunk e. given_code 1 stripe (code 1) chunk (h.codes 1 (lit≤ tt)) e) (λ chunk e. given_code 2 stripe (code 2) chunk (h.codes 2 (lit≤ tt)) e))

pub named_refused : MaySend (account (begun (Sweep true)) (shedding Exclusive ((name_f, record { kind = File; gfid = file }) ∷ []))) 0 (Unmake directory 1 file) → ⊥
named_refused m = differ (sym (m.1.orphan 1 0 (lit≤ tt) refl))

pub shared_refused : MaySend (account (begun (Sweep true)) (shedding Shared [])) 0 (Unmake directory 1 file) → ⊥
shared_refused m = differ (m.1.locked 0 (lit≤ tt)).1

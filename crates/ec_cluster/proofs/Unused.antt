-- Whether all stores are unused, and the next gfid, store after store.
use Rattle.std.proofs.Common.{◌≡◌, ◌≢◌, ◌⊎◌, inl, inr, ⊎_elim, ℕ, ◌+◌, Bool, true, false, ◌&&◌, Option, Some, None, List, refl, sym, ◌∙◌, ap, subst, arith}
use Rattle.std.specs.Option.{is_none}
use Rattle.std.specs.Prelude.{is_some, not, slice_get, IfSome}
use Rattle.ec_attr.specs.declared.config.Config.{Config}
use Rattle.ec_attr.specs.declared.gfid.Gfid.{Gfid}
use Rattle.ec_brick.specs.Opening.{IsUnused, Opens}
use Rattle.ec_store.specs.Records.{Records}
use Rattle.ec_cluster.proofs.Saying.{either}
use Rattle.ec_cluster.specs.Open.{AreUnused, IsAfterTaken, TellsUnused}

pub unused_none : (config : Config) (records : List Records) → TellsUnused config 0 records true
unused_none config records = record { all = λ e b r lt at. absurd (omega arith); some = λ e. absurd cc }

unused_and : (config : Config) (n : ℕ) (records : List Records) (r : Records) → slice_get records n ≡ Some r → IsUnused config r → AreUnused config n records → AreUnused config (n + 1) records
unused_and config n records r at u h b q lt stored = ⊎_elim
    (λ (p : b ≡ n). let q_is : q ≡ r = (let w : Some q ≡ Some r = sym stored ∙ (ap (slice_get records) p ∙ at) in cc) in subst (IsUnused config) (sym q_is) u)
    (λ (p : b ≢ n). h b q (omega arith) stored)
    (either b n)

unused_front : (config : Config) (n : ℕ) (records : List Records) → AreUnused config (n + 1) records → AreUnused config n records
unused_front config n records h b q lt stored = h b q (omega arith) stored

pub unused_more : (config : Config) (n : ℕ) (records : List Records) (flag : Bool) (r : Records) (last : Option Gfid) → slice_get records n ≡ Some r → Opens config r last → TellsUnused config n records flag → TellsUnused config (n + 1) records (flag && is_none last)
unused_more config n records false r last at o h = record { all = λ e. absurd cc; some = λ e u. h.some refl (unused_front config n records u) }
unused_more config n records true r None at o h = record { all = λ e. unused_and config n records r at o (h.all refl); some = λ e. absurd cc }
unused_more config n records true r (Some last) at o h = record { all = λ e. absurd cc; some = λ e u. o.0 (u n r (omega arith) at) }

after_front : (n : ℕ) (records : List Records) (next more : ℕ) → more ≡ next → IsAfterTaken n records next → IsAfterTaken (n + 1) records more
after_front n records next more e (inl two) = inl (e ∙ two)
after_front n records next more e (inr p) = inr (p.0, p.1, p.2, (let l = p.3 in omega arith), p.4, p.5, e ∙ p.6)

pub after_more : (config : Config) (n : ℕ) (records : List Records) (next more : ℕ) (r : Records) (last : Option Gfid) → slice_get records n ≡ Some r → Opens config r last → (last ≡ None → more ≡ next) → IfSome last (λ g. (more ≡ next) ⊎ (more ≡ g.0 + 1)) → IsAfterTaken n records next → IsAfterTaken (n + 1) records more
after_more config n records next more r None at o none step h = after_front n records next more (none refl) h
after_more config n records next more r (Some last) at o none (inl same) h = after_front n records next more same h
after_more config n records next more r (Some last) at o none (inr one) h = inr (n, r, last.0, omega arith, at, o.1, one)

pub none_is : (last : Option Gfid) (r : Bool) → is_some last ≡ not r → r ≡ is_none last
none_is None true h = refl
none_is None false h = absurd cc
none_is (Some g) true h = absurd cc
none_is (Some g) false h = refl

-- When no quorum answered.
use Rattle.std.proofs.Common.{◌≡◌, inl, inr, ℕ, ◌<◌, true, false, refl, sym, subst, lit≤, arith}
use Rattle.ec_attr.specs.Bricks.{bricks_below, count_below}
use Rattle.ec_attr.specs.GoodGroup.{agree, greatest_below}
use Rattle.ec_wire.specs.declared.op.Op.TheVariants.{SetAttr, Truncate}
use Rattle.ec_wire.specs.declared.phase.Phase.TheVariants.{Pre, Query}
use Rattle.ec_wire.specs.declared.reply.Reply.TheVariants.{Done, Fault}
use Rattle.ec_conduct.specs.Account.{at}
use Rattle.ec_conduct.specs.Examples.{begun, file, kept_pre_ops, mixed_pre_ops, on_kept_grants, one_query, other_attr, sink_pre_ops, stale_third}
use Rattle.ec_conduct.specs.Opened.{account}
use Rattle.ec_conduct.specs.Phases.{HasNoQuorum, Once, ChunksFrom, NamesPast, Round, has_failed, has_round, is_first_on_kept, most, phase_account}
use Rattle.ec_conduct.proofs.Examples.{each}

differ : false ≡ true → ⊥
differ e = absurd (cc)

pub few_done : HasNoQuorum (account (begun (SetAttr file other_attr)) (mixed_pre_ops Done Fault Fault)) Pre 1
unfolding bricks_below count_below agree greatest_below
few_done = record { gfid = 2; about = refl; round = Once; of_phase = refl; counting = refl; anew = refl; asked = each _ (λ e. inl refl) (λ e. inl refl) (λ e. inl refl); counted = refl; few = lit≤ tt }

two_done : (n : ℕ) (round : Round) → has_round Pre round ≡ true → n ≡ most (account (begun (SetAttr file other_attr)) (mixed_pre_ops Done Fault Done)) 2 Pre (phase_account (account (begun (SetAttr file other_attr)) (mixed_pre_ops Done Fault Done)) 2 Pre round).reply → n < 2 → ⊥
unfolding bricks_below count_below agree greatest_below
two_done n Once e k l = let same : n ≡ 2 = k in absurd (omega (arith, same, l))
two_done n (ChunksFrom first) e k l = absurd (differ e)
two_done n (NamesPast start) e k l = absurd (differ e)

pub enough_done : (n : ℕ) → HasNoQuorum (account (begun (SetAttr file other_attr)) (mixed_pre_ops Done Fault Done)) Pre n → ⊥
enough_done n h = two_done n h.round h.of_phase (subst (λ g. n ≡ most (account (begun (SetAttr file other_attr)) (mixed_pre_ops Done Fault Done)) g Pre (phase_account (account (begun (SetAttr file other_attr)) (mixed_pre_ops Done Fault Done)) g Pre h.round).reply) (sym h.about) h.counted) h.few

two_alike : (n : ℕ) (round : Round) → has_round Query round ≡ true → n ≡ most (account (begun (SetAttr file other_attr)) stale_third) 2 Query (phase_account (account (begun (SetAttr file other_attr)) stale_third) 2 Query round).reply → n < 2 → ⊥
unfolding bricks_below count_below agree greatest_below
two_alike n Once e k l = let same : n ≡ 2 = k in absurd (omega (arith, same, l))
two_alike n (ChunksFrom first) e k l = absurd (differ e)
two_alike n (NamesPast start) e k l = absurd (differ e)

pub enough_alike : (n : ℕ) → HasNoQuorum (account (begun (SetAttr file other_attr)) stale_third) Query n → ⊥
enough_alike n h = two_alike n h.round h.of_phase (subst (λ g. n ≡ most (account (begun (SetAttr file other_attr)) stale_third) g Query (phase_account (account (begun (SetAttr file other_attr)) stale_third) g Query h.round).reply) (sym h.about) h.counted) h.few

one_asked : (round : Round) → has_round Query round ≡ true → (phase_account (account (begun (SetAttr file other_attr)) one_query) 2 Query round).asked 1 ≡ true → ⊥
one_asked Once e a = differ a
one_asked (ChunksFrom first) e a = absurd (differ e)
one_asked (NamesPast start) e a = absurd (differ e)

pub not_asked : (n : ℕ) → HasNoQuorum (account (begun (SetAttr file other_attr)) one_query) Query n → ⊥
not_asked n h = elim (h.asked 1 (lit≤ tt) refl) [
  | inl a ↦ one_asked h.round h.of_phase (subst (λ g. (phase_account (account (begun (SetAttr file other_attr)) one_query) g Query h.round).asked 1 ≡ true) (sym h.about) a)
  | inr f ↦ differ (subst (λ g. has_failed (at (account (begun (SetAttr file other_attr)) one_query) g 1) ≡ true) (sym h.about) f)
]

pub sinks_uncounted : HasNoQuorum (account (begun (SetAttr file other_attr)) (sink_pre_ops Fault)) Pre 1
unfolding bricks_below count_below agree greatest_below
sinks_uncounted = record { gfid = 2; about = refl; round = Once; of_phase = refl; counting = refl; anew = refl; asked = each _ (λ e. inl refl) (λ e. inl refl) (λ e. inl refl); counted = refl; few = lit≤ tt }

pub begins_anew : (n : ℕ) → HasNoQuorum (account (on_kept_grants (Truncate file 0)) kept_pre_ops) Pre n → ⊥
begins_anew n h = differ (sym (subst (λ g. is_first_on_kept (Truncate file 0) Pre ((account (on_kept_grants (Truncate file 0)) kept_pre_ops).on g).queried ≡ false) (sym h.about) h.anew))

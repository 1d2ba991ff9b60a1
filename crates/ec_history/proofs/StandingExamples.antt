-- Records that stand for no flat file, and the record of a sink.
use Rattle.std.proofs.Common.{◌≡◌, inl, inr, ℕ, zero, suc, ◌+◌, ◌*◌, ◌<◌, ◌≤◌, false, true, refl, lit≤, arith, [], ◌∷◌, Some, None}
use Rattle.ec_attr.specs.Bricks as Bricks
use Rattle.ec_attr.specs.declared.kind.Kind.TheVariants.{File, Dir}
use Rattle.ec_history.specs.Flat.{is_open}
use Rattle.ec_history.specs.Reference.{HasGroupsStripe, IsUnsettled}
use Rattle.ec_history.specs.StandingExamples.{Beginnings, Healed, HealedOpen, NotStanding, behind, config, disturbed, heal_of, of_open}

different : (a b : ℕ) → (a < b) → a ≡ b → ⊥
different a b l e = absurd (omega (arith, l, e))

kinds_differ : Some Dir ≡ Some File → ⊥
kinds_differ e = absurd (cc)

no_child : {X : Type 0} (x : X) → Some x ≡ None → ⊥
no_child x e = absurd (cc)

no_byte : (v : ℕ) → None ≡ Some v → ⊥
no_byte v e = absurd (cc)

pub not_standing : NotStanding
unfolding Bricks.count_below
not_standing = record {
  unpromised = λ s. let few : 2 < 2 = s.promised 2 _ (lit≤ tt) refl (lit≤ tt) in absurd (omega (arith, few));
  other_group = λ s. let few : 2 < 2 = s.alone 0 refl (λ e. different 0 1 (lit≤ tt) e) in absurd (omega (arith, few));
  other_size = λ s. different 0 7 (lit≤ tt) (let e : 7 ≡ 0 = (s.heads 0 _ (lit≤ tt) refl refl).size in omega (arith, e));
  other_kind = λ s. kinds_differ (s.kinds 0 _ (lit≤ tt) refl);
  other_name = λ s. no_child _ (s.content.names 0 _ (97 ∷ []) (lit≤ tt) refl refl refl);
}

no_stripes : (fewer : ℕ) → 0 ≤ 512 * 2 * fewer → 0 ≤ fewer
no_stripes fewer l = omega arith

pub healed : Healed
healed = record {
  reference = record {
    heads = record { kind = refl; of_volume = refl; size = refl; attr = refl };
    version = refl;
    dirty = refl;
    closed = λ s o f. absurd (cc);
    opened = λ s o f l. absurd (cc);
    end = record { length = 0; of_size = record { stripes = 0; hold = record { enough = lit≤ tt; least = λ fewer l. omega arith }; chunks = refl }; earlier = λ s l m. inr refl; later = λ l. inr refl };
    names = λ n o f. absurd (cc);
  };
  other_dirty = λ r. different 0 1 (lit≤ tt) r.dirty;
  whole = λ r. let h : HasGroupsStripe config.geometry (heal_of 0) 2 disturbed 0 = r.closed 0 refl refl in no_byte _ (h.1.piece.bytes 0 (lit≤ tt));
}

none_read : 2 ≤ Bricks.count_below 3 (λ c. false) → ⊥
unfolding Bricks.count_below
none_read l = absurd (omega (arith, l))

pub healed_open : HealedOpen
healed_open = record {
  overtaken = record {
    heads = record { kind = refl; of_volume = refl; size = refl; attr = refl };
    version = refl;
    dirty = refl;
    closed = closed;
    opened = λ s o f l. absurd (let read : true ≡ false = f in cc);
    end = record { length = 512; of_size = record { stripes = 1; hold = record { enough = lit≤ tt; least = λ fewer l. omega (arith, l) }; chunks = refl }; earlier = earlier; later = λ l. absurd (omega (arith, l)) };
    names = λ n o f. absurd (let quiet : true ≡ false = f in cc);
  };
  not_overtaken = λ r. none_read (r.opened 0 refl refl (lit≤ tt)).enough;
  made_since = record { kind = refl; of_volume = refl; size = refl; attr = refl };
} where
  closed : (s : ℕ) → is_open ((of_open true).flat.opener s) ≡ false → (of_open true).stirred s ≡ false → HasGroupsStripe config.geometry (of_open true) 2 behind s
  closed zero o f = absurd (let shut : true ≡ false = o in cc)
  closed (suc s) o f = absurd (let quiet : true ≡ false = f in cc)

  earlier : (s : ℕ) → behind.shortest < 512 * (s + 1) → 512 * (s + 1) ≤ 512 → IsUnsettled (of_open true) s
  earlier zero l m = inl refl
  earlier (suc s) l m = inr refl

pub beginnings : Beginnings
unfolding Bricks.count_below
beginnings = record { root = refl; nothing_else = refl; root_kind = refl; no_file = refl; lowest_wiped = refl; other_left = refl; all_wiped = refl }

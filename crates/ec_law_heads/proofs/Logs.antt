-- The laws of heads after every log.
use Rattle.std.proofs.Common.{◌≡◌, ℕ, ◌<◌, Option, Some, None, refl, sym, ◌∙◌, ap, subst, inl}
use Rattle.std.specs.Option.{option_map}
use Rattle.ec_attr.specs.declared.config.Config.{Config}
use Rattle.ec_attr.specs.declared.head.Head.{Head}
use Rattle.ec_attr.specs.declared.kind.Kind.{Kind}
use Rattle.ec_brick.specs.State.{State as Brick}
use Rattle.ec_store.specs.Records.{Record, Records, head_at}
use Rattle.ec_history.specs.Flat.{Flat, Tree, from_before}
use Rattle.ec_history.specs.Holds.{IsBounded}
use Rattle.ec_history.specs.Run.{fresh, run}
use Rattle.ec_history.specs.Starts.{IsStart}
use Rattle.ec_law_turns.proofs.Origins.{unrecorded}
use Rattle.ec_law_data.specs.Laws.{begun}
use Rattle.ec_law_heads.specs.Heads.{AreBounded, AreOfKind, AreOfVolume, HeadsStand, IsBlankUnmade, StandTogether}
use Rattle.ec_law_heads.specs.Laws.{AfterEveryLog, AllOfThese, AlwaysOneKind, Any, BeganOfVolume, HeadLaws, MakesOneKind}
use Rattle.ec_law_heads.proofs.Agreeing.{alone, promised}
use Rattle.ec_law_heads.proofs.Bounds.{Heads, bounded_entry}
use Rattle.ec_law_heads.proofs.Making.{HasKinds, kinds_entry}
use Rattle.ec_law_heads.proofs.Blank.{IsUnmade, unmade_goes}
use Rattle.ec_law_heads.proofs.Volumes.{OfVolume, volume_entry}
use Rattle.ec_law_heads.proofs.Walking.{anything, by_log}

-- ## The beginning

-- the record of a head
record_of : (m : Records) (g : ℕ) (h : Head) → head_at m g ≡ Some h → (r : Record) × (m g ≡ Some r) × (r.head ≡ h)
record_of m g h e = at (m g) refl e
  where
    at : (o : Option Record) → m g ≡ o → option_map (λ r. r.head) o ≡ Some h → (r : Record) × (m g ≡ Some r) × (r.head ≡ h)
    at None is z = absurd (cc)
    at (Some r) is z = (r, is, same r.head h z)
      where
        same : (x y : Head) → Some x ≡ Some y → x ≡ y
        same x y e = cc

-- what holds of each record as the log begins holds of the heads of the bricks
first_heads : (config : Config) (records : ℕ → Records) (bricks : ℕ → Brick) (tree : Tree) (next g : ℕ) → IsStart config records bricks tree next → (law : Head → Type 0) → ((b : ℕ) (r : Record) → b < config.geometry.n → records b g ≡ Some r → law r.head) → Heads config.geometry.n g (fresh bricks) law
first_heads config records bricks tree next g start law holds b h lt is =
    let r = record_of (bricks b).records g h is in
    subst law r.2 (holds b r.0 lt (sym (ap (λ (m : Records). m g) (start.opened b lt).kept) ∙ r.1))

-- and what holds of the heads at the end holds of the records
of_record : (m : Records) (g : ℕ) (r : Record) → m g ≡ Some r → head_at m g ≡ Some r.head
of_record m g r e = ap (option_map (λ (r : Record). r.head)) e

-- ## The laws

bounded : AfterEveryLog Any AreBounded
bounded config records bricks tree next g es start runs plain orderly any b r lt is =
    by_log (λ m v. Unit {0}) (λ m vs t. Heads config.geometry.n g m IsBounded) config records bricks tree next g es start runs plain orderly
    (λ m vs t books e may k premise h. bounded_entry config.geometry g m (vs g) books e may (k.reached g) h)
    (anything g es (fresh bricks) (begun config records tree next g))
    (first_heads config records bricks tree next g start IsBounded (λ b r lt is. (start.stand g).bounded b r lt is))
    b r.head lt (of_record ((run es (fresh bricks)).brick b).records g r is)

of_volume : AfterEveryLog BeganOfVolume AreOfVolume
of_volume config records bricks tree next g es start runs plain orderly began b r lt is =
    (by_log (λ m v. Unit {0}) (λ m vs t. OfVolume config g m) config records bricks tree next g es start runs plain orderly
    (λ m vs t books e may k premise h. volume_entry config g m (vs g) books e may (k.reached g) h)
    (anything g es (fresh bricks) (begun config records tree next g))
    (record {
      bricks = λ b lt. (start.opened b lt).of_volume;
      heads = first_heads config records bricks tree next g start (λ h. h.config ≡ config) began;
    })).heads b r.head lt (of_record ((run es (fresh bricks)).brick b).records g r is)

kinds : AfterEveryLog AlwaysOneKind AreOfKind
kinds config records bricks tree next g es start runs plain orderly one b r lt is =
    (by_log (MakesOneKind g) (λ m vs t. HasKinds config.geometry.n g (tree g).kind m t) config records bricks tree next g es start runs plain orderly
    (λ m vs t books e may k premise h. kinds_entry config.geometry next (λ x. (tree x).version) g (tree g).kind (λ le. ap (λ (y : Flat). y.kind) (start.elsewhere g (unrecorded config records bricks tree next g start le))) m vs t books k premise h e may)
    one
    (record {
      heads = first_heads config records bricks tree next g start (λ h. Some h.kind ≡ (tree g).kind) (λ b r lt is. (start.stand g).kinds b r lt is);
      from = λ kind is. inl is;
    })).heads b r.head lt (of_record ((run es (fresh bricks)).brick b).records g r is)

no_record : (o : Option Record) → option_map (λ r. r.head) o ≡ None → o ≡ None
no_record None e = refl
no_record (Some r) e = absurd (cc)

-- of a gfid that has no kind no brick has a record as the log begins
unmade_first : (config : Config) (records : ℕ → Records) (bricks : ℕ → Brick) (tree : Tree) (next g : ℕ) → IsStart config records bricks tree next → (tree g).kind ≡ None → (b : ℕ) → b < config.geometry.n → records b g ≡ None
unmade_first config records bricks tree next g start unmade b lt = at (records b g) refl
  where
    kind_none : (k : Kind) → Some k ≡ None → ⊥
    kind_none k e = cc

    at : (o : Option Record) → records b g ≡ o → o ≡ None
    at None is = refl
    at (Some r) is = absurd (kind_none r.head.kind ((start.stand g).kinds b r lt is ∙ unmade))

unmade : AfterEveryLog Any IsBlankUnmade
unmade config records bricks tree next g es start runs plain orderly any none =
    let end = by_log (λ m v. Unit {0}) (λ m vs t. (t.tree g).kind ≡ None → IsUnmade config.geometry.n g m (t.tree g)) config records bricks tree next g es start runs plain orderly
    (λ m vs t books e may k premise h. unmade_goes config.geometry g m (vs g) books t e may (k.reached g) h)
    (anything g es (fresh bricks) (begun config records tree next g))
    (λ unmade. record {
      blank_is = ap from_before (start.elsewhere g (unmade_first config records bricks tree next g start unmade));
      none = λ b lt. ap (λ (m : Records). head_at m g) (start.opened b lt).kept ∙ ap (option_map (λ (r : Record). r.head)) (unmade_first config records bricks tree next g start unmade b lt);
    }) none in
    (end.blank_is, λ b lt. no_record (((run es (fresh bricks)).brick b).records g) (end.none b lt))

heads : AfterEveryLog AllOfThese HeadsStand
heads config records bricks tree next g es start runs plain orderly all = record {
  bounded = bounded config records bricks tree next g es start runs plain orderly tt;
  of_volume = of_volume config records bricks tree next g es start runs plain orderly all.of_volume;
  kinds = kinds config records bricks tree next g es start runs plain orderly all.one_kind;
  alone = alone config records bricks tree next g es start runs plain orderly all.one_turn;
  promised = promised config records bricks tree next g es start runs plain orderly all.one_turn;
}

together : StandTogether
together config copies flat h rest = record {
  heads = λ b r lt is at. record { kind = h.kinds b r lt is; of_volume = h.of_volume b r lt is; size = rest.size b r lt is at; attr = rest.attr b r lt is at };
  content = rest.content;
  alone = h.alone;
  promised = h.promised;
  bounded = h.bounded;
  kinds = h.kinds;
}

pub head_laws : HeadLaws
head_laws = record { bounded = bounded; of_volume = of_volume; kinds = kinds; alone = alone; promised = promised; heads = heads; unmade = unmade; together = together }

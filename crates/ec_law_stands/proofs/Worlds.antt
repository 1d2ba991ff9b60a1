-- The bricks of a world stand for its flat files.
use Rattle.std.proofs.Common.{◌≡◌, ◌≢◌, ℕ, ◌<◌, Bool, true, false, cond, ◌==◌, ◌++◌, Option, Some, None, List, refl, sym, ◌∙◌, ap}
use Rattle.std.specs.Prelude.{is_some}
use Rattle.std.specs.Option.{option_map}
use Rattle.ec_attr.specs.declared.head.Head.{Head}
use Rattle.ec_attr.specs.Bricks.{count_below}
use Rattle.ec_attr.specs.Marks.{is_marked}
use Rattle.ec_attr.specs.declared.config.Config.{Config}
use Rattle.ec_attr.specs.declared.kind.Kind.{Kind}
use Rattle.ec_attr.specs.declared.kind.Kind.TheVariants.{Dir, File}
use Rattle.ec_brick.specs.State.{State as Brick}
use Rattle.ec_calls.specs.declared.any.AnyCall.{AnyCall}
use Rattle.ec_clients.specs.declared.clients.Clients.{Clients}
use Rattle.ec_cluster.specs.Views.{log_of}
use Rattle.ec_cluster.specs.declared.cluster.Cluster.{Cluster}
use Rattle.ec_conduct.specs.Given.{Given, quorum}
use Rattle.ec_conduct.specs.Own.{Own}
use Rattle.ec_history.specs.Flat.{Flat, Tree, blank}
use Rattle.ec_history.specs.Holds.{HoldClosed, HoldsStripe, IsAtVersion, Stands}
use Rattle.ec_history.specs.Run.{fresh, run}
use Rattle.ec_history.specs.Starts.{IsNextGfid, IsStart, empty_root, fresh_records, root_tree}
use Rattle.ec_store.specs.Records.{Record, Records, head_at}
use Rattle.ec_txn.specs.declared.ctx.Ctx.{Ctx}
use Rattle.ec_wire.specs.declared.entry.Entry.{Entry}
use Rattle.ec_law_calls.specs.World.{IsInOrder, IsLogged, WorldLaws}
use Rattle.ec_law_data.specs.Laws.{begun}
use Rattle.ec_law_turns.proofs.Basics.{some_is}
use Rattle.ec_law_flats.specs.Laws.{FlatNameLaws}
use Rattle.ec_law_flats.specs.StripeLaws.{IsUnmarkedAt}
use Rattle.ec_law_heads.specs.Heads.{HoldsRest}
use Rattle.ec_law_heads.specs.Laws.{BeganOfVolume, copies_after, flat_after}
use Rattle.ec_law_heads.specs.Restart.{RestartLaws}
use Rattle.ec_law_heads.specs.Worlds.{Holds, WorldHeadLaws}
use Rattle.ec_law_heads.proofs.Bounds.{Heads}
use Rattle.ec_law_heads.proofs.Volumes.{OfVolume, volume_entry}
use Rattle.ec_law_heads.proofs.Walking.{anything, by_log}
use Rattle.ec_law_names.specs.Built.{CallBuiltLaws}
use Rattle.ec_law_names.specs.Laws.{WorldNameLaws}
use Rattle.ec_law_names.proofs.Built.{are_built}
use Rattle.ec_law_parts.specs.Laws.{InEveryWorldsLog, WorldFlatLaws}
use Rattle.ec_law_sizes.specs.Records.{WorldSizeLaws}
use Rattle.ec_law_stripes.specs.Begins.{ZeroPastSize}
use Rattle.ec_law_stripes.specs.HeldStripes.{WorldHeldLaws}
use Rattle.ec_law_stripes.specs.Laws.{BeginLaws}
use Rattle.ec_law_stands.specs.Laws.{BeginsWell, MayBegin, StaysUnmarked, WorldStandLaws, records_after, started_again, tree_after}
use Rattle.ec_law_stands.specs.Others.{CodeStripes, HoldOthers, LeadNames}
use Rattle.ec_law_stands.proofs.Holding.{hold_others}
use Rattle.ec_law_stands.proofs.Marks.{unmarked_after}

is_none : (kind : Kind) → None ≡ Some kind → ⊥
is_none kind e = cc

-- what is remembered is so where the flat file and a blank one are
either : (law : Flat → Type 0) (c : Bool) (flat : Flat) → law blank → law flat → law (cond c blank flat)
either law true flat h k = h
either law false flat h k = k

-- ## The beginning

fresh_well : RestartLaws → (config : Config) → BeginsWell config (fresh_records config) root_tree
fresh_well restart config = record {
  of_volume = λ g. restart.opened config (λ b g. None) g (root_tree g) (λ b lt x h e. absurd (cc));
  zeros = λ g. at (ZeroPastSize (quorum config.geometry)) (g == 1) (λ s i closed past lt. refl) (λ s i closed past lt. refl);
  unmarked = λ g. at (λ (x : Flat). is_marked x.version ≡ false) (g == 1) refl refl;
}
  where
    at : (law : Flat → Type 0) (c : Bool) → law empty_root → law blank → law (cond c empty_root blank)
    at law true h k = h
    at law false h k = k

module _ (config : Config) (records : ℕ → Records) (bricks : ℕ → Brick) (tree : Tree) (next : ℕ) (es : List Entry) (start : IsStart config records bricks tree next) (w : IsInOrder config bricks tree next es) (began : BeganOfVolume config records bricks tree next 0 es) where
  -- the bricks are of the volume
  same_volume : (b : ℕ) → b < config.geometry.n → ((run es (fresh bricks)).brick b).config ≡ config
  same_volume = (by_log (λ m v. Unit {0}) (λ m vs t. OfVolume config 0 m) config records bricks tree next 0 es start w.is_run w.plain w.orderly
      (λ m vs t books e may k premise h. volume_entry config 0 m (vs 0) books e may (k.reached 0) h)
      (anything 0 es (fresh bricks) (begun config records tree next 0))
      (record { bricks = λ b lt. (start.opened b lt).of_volume; heads = first })).bricks
    where
      first : Heads config.geometry.n 0 (fresh bricks) (λ h. h.config ≡ config)
      first b h lt is = at (records b 0) refl (sym (ap (λ (m : Records). head_at m 0) (start.opened b lt).kept) ∙ is)
        where
          at : (o : Option Record) → records b 0 ≡ o → option_map (λ (r : Record). r.head) o ≡ Some h → h.config ≡ config
          at None e z = absurd (cc)
          at (Some r) e z = ap (λ (x : Head). x.config) (sym (some_is r.head h z)) ∙ began b r lt e

module _ (stands : Ctx → Given → AnyCall → List Own → Type 0) (by_table : Ctx → Given → List Own → Type 0) (laws : WorldLaws stands by_table) (flat : WorldFlatLaws stands by_table) (heads : WorldHeadLaws stands by_table) (restart : RestartLaws) (built : CallBuiltLaws stands) (names : WorldNameLaws stands by_table) (flats : FlatNameLaws) (sizes : WorldSizeLaws stands by_table) (begins : BeginLaws) (held : WorldHeldLaws stands by_table) where
  others : InEveryWorldsLog stands by_table (Holds HoldOthers)
  others config records bricks tree next g s c start logged es rest parts =
      let w = laws.in_order config bricks tree next s c logged es rest parts in
      hold_others config records bricks tree next g es start w.is_run w.plain (are_built stands by_table built flats config bricks tree next s c logged es rest parts) w.orderly
      (heads.one_kind config records bricks tree next g s c start logged es rest parts)
      (flat.one_turn config records bricks tree next g s c start logged es rest parts)

  unmarked : InEveryWorldsLog stands by_table StaysUnmarked
  unmarked config records bricks tree next g s c start logged es rest parts =
      let w = laws.in_order config bricks tree next s c logged es rest parts in
      unmarked_after config records bricks tree next g es start w.is_run w.plain w.orderly

  module _ (config : Config) (records : ℕ → Records) (bricks : ℕ → Brick) (tree : Tree) (next : ℕ) (s : Cluster) (c : Clients AnyCall) (start : IsStart config records bricks tree next) (logged : IsLogged stands by_table config bricks tree next s c) (es rest : List Entry) (parts : log_of s ≡ es ++ rest) (well : BeginsWell config records tree) where
    module _ (g : ℕ) where
      abbrev now : Flat
      now = flat_after config es bricks tree next g

      lead_names : LeadNames config (copies_after es bricks g) now
      lead_names = by now.kind refl
        where
          other : (o : Option Kind) → now.kind ≡ o → o ≢ Some Dir → LeadNames config (copies_after es bricks g) now
          other o e ne = (others config records bricks tree next g s c start logged es rest parts).names (λ z. ne (sym e ∙ z))

          by : (o : Option Kind) → now.kind ≡ o → LeadNames config (copies_after es bricks g) now
          by None e = other None e (is_none Dir)
          by (Some File) e = other (Some File) e (λ z. absurd (cc))
          by (Some Dir) e = names.held config records bricks tree next g s c start logged es rest parts e

      code_stripes : CodeStripes config (copies_after es bricks g) now
      code_stripes = by now.kind refl
        where
          other : (o : Option Kind) → now.kind ≡ o → o ≢ Some File → CodeStripes config (copies_after es bricks g) now
          other o e ne = (others config records bricks tree next g s c start logged es rest parts).stripes (λ z. ne (sym e ∙ z))

          by : (o : Option Kind) → now.kind ≡ o → CodeStripes config (copies_after es bricks g) now
          by None e = other None e (is_none File)
          by (Some Dir) e = other (Some Dir) e (λ z. absurd (cc))
          by (Some File) e = held.held config records bricks tree next g s c start logged es rest parts well.zeros e

      no_mark : is_marked now.version ≡ false
      no_mark = unmarked config records bricks tree next g s c start logged es rest parts (well.unmarked g)

      content : HoldClosed config.geometry (copies_after es bricks g) (IsAtVersion now.version) now
      content = record {
        stripes = λ s closed. all_hold s (code_stripes s closed);
        names = λ b r name lt is at shut. lead_names b r name lt is (ap is_marked at ∙ no_mark) at shut;
      }
        where
          -- no record at the version is marked
          all_hold : (s : ℕ) → HoldsStripe config.geometry (copies_after es bricks g) (IsUnmarkedAt now.version) now s → HoldsStripe config.geometry (copies_after es bricks g) (IsAtVersion now.version) now s
          all_hold s x = record { stripe = x.stripe; is_stripe = x.is_stripe; bytes = x.bytes; codes = λ b r lt is at. x.codes b r lt is (ap is_marked at ∙ no_mark, at) }

      rest_holds : HoldsRest config (copies_after es bricks g) now
      rest_holds = record {
        size = λ b r lt is at. (sizes.sized config records bricks tree next g s c start logged es rest parts b r lt is at).0;
        attr = λ b r lt is at. (sizes.sized config records bricks tree next g s c start logged es rest parts b r lt is at).1;
        content = content;
      }

      stand_there : Stands config (copies_after es bricks g) now
      stand_there = heads.stand config records bricks tree next g s c start logged es rest parts (well.of_volume g) rest_holds

    zero_blank : ZeroPastSize (quorum config.geometry) blank
    zero_blank s i closed past lt = refl

    abbrev none_has : ℕ → Bool
    none_has h = count_below config.geometry.n (λ b. is_some (records_after es bricks b h)) == 0

    again : (later : ℕ) → IsNextGfid config.geometry.n (records_after es bricks) later → MayBegin config (records_after es bricks) (started_again es bricks) (tree_after config es bricks tree next) later
    again later is_next = record {
      start = record {
        opened = λ b lt. record {
          of_volume = same_volume config records bricks tree next es start (laws.in_order config bricks tree next s c logged es rest parts) (well.of_volume 0) b lt;
          kept = refl;
          up = refl;
          unlocked = refl;
          removed = λ g. refl;
        };
        stand = λ h. restart.stand config (copies_after es bricks h) (flat_after config es bricks tree next h) (stand_there h);
        elsewhere = restart.elsewhere config (records_after es bricks) (λ h. flat_after config es bricks tree next h);
        next_gfid = is_next;
      };
      well = record {
        of_volume = λ h. heads.of_volume config records bricks tree next h s c start logged es rest parts (well.of_volume h);
        zeros = λ h. either (ZeroPastSize (quorum config.geometry)) (none_has h) (flat_after config es bricks tree next h) zero_blank (begins.again config.geometry tree next es (fresh bricks) well.zeros h);
        unmarked = λ h. either (λ (x : Flat). is_marked x.version ≡ false) (none_has h) (flat_after config es bricks tree next h) refl (no_mark h);
      };
    }

  pub world_stands : WorldStandLaws stands by_table
  world_stands = record {
    fresh_bricks = fresh_well restart;
    others = others;
    unmarked = unmarked;
    stand = λ config records bricks tree next g s c start logged es rest parts well. stand_there config records bricks tree next s c start logged es rest parts well g;
    again = λ config records bricks tree next g s c start logged es rest parts well. again config records bricks tree next s c start logged es rest parts well;
  }

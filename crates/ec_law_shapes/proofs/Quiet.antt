-- Deeds that leave shapes, what was told and what the machine saw.
use Rattle.std.proofs.Common.{◌≡◌, ℕ, Bool, true, false, cond, ◌&&◌, Option, Some, None, List, [], ◌∷◌, ◌++◌, map, refl, ◌∙◌}
use Rattle.ec_locks.specs.declared.ask.Ask.{Ask as Asking}
use Rattle.ec_attr.specs.declared.kind.Domain.TheVariants.{Inode, Heal}
use Rattle.ec_brick.specs.State.{State as Brick}
use Rattle.ec_brick.specs.Step.{Out}
use Rattle.ec_history.specs.Run.{Net, call_of, out_of, torn_out}
use Rattle.ec_history.specs.Story.{is_done}
use Rattle.ec_wire.specs.declared.message.Body.{Body}
use Rattle.ec_wire.specs.declared.message.Body.TheVariants.{ToBrick, ToClient}
use Rattle.ec_wire.specs.declared.message.Message.{Message}
use Rattle.ec_wire.specs.declared.request.Request.{Request}
use Rattle.ec_law_base.specs.State.{State}
use Rattle.ec_law_ballots.specs.Act.{Act}
use Rattle.ec_law_ballots.specs.Act.Act.{Grant, Free, Moment, Pre, Sink_pre, Clear as Clears, Heal_grant, Heal_free, Maker_grant, Maker_free, Made as Mades, Unmake as Unmakes, Stop, Replace}
use Rattle.ec_law_pieces.specs.Deed.{Deed, after as after_deeds, step}
use Rattle.ec_law_pieces.specs.Deed.Deed.{Read, Write, Tear, Spoil}
use Rattle.ec_law_pieces.specs.File.{File}
use Rattle.ec_law_net.specs.Turns.{View, acts_changed, acts_locks, acts_maker, exclusive, freed, granted, has_directory, same}
use Rattle.ec_law_data.specs.Deeds.{deeds_answered, deeds_done, deeds_failed, deeds_of_request, deeds_of_torn, deeds_partly, deeds_torn, dressed, is_at_base, is_granted, is_partial, pieces_of, shows}
use Rattle.ec_law_data.specs.Reading.{Plans, Reading}

-- two files with the same shapes and plans of shapes
pub record Same {P V C U S : Type 0} (f f' : File P V C U S) : Type 0 where
  pub shape : f'.shape ≡ f.shape
  pub shape_of : f'.shape_of ≡ f.shape_of
  pub told : f'.told ≡ f.told
  pub took : f'.took ≡ f.took
  pub planned : f'.planned ≡ f.planned
  pub becomes : f'.becomes ≡ f.becomes
  pub seen : f'.heads.seen ≡ f.heads.seen
  pub making : f'.heads.making ≡ f.heads.making

pub same_itself : {P V C U S : Type 0} (f : File P V C U S) → Same f f
same_itself f = record { shape = refl; shape_of = refl; told = refl; took = refl; planned = refl; becomes = refl; seen = refl; making = refl }

pub same_then : {P V C U S : Type 0} (f f' f'' : File P V C U S) → Same f f' → Same f' f'' → Same f f''
same_then f f' f'' h i = record { shape = i.shape ∙ h.shape; shape_of = i.shape_of ∙ h.shape_of; told = i.told ∙ h.told; took = i.took ∙ h.took; planned = i.planned ∙ h.planned; becomes = i.becomes ∙ h.becomes; seen = i.seen ∙ h.seen; making = i.making ∙ h.making }

-- acts that say nothing of shapes
abbrev pub is_calm : Act → Bool
is_calm (Grant a b) = true
is_calm (Free b) = true
is_calm (Moment a) = true
is_calm (Pre a b) = true
is_calm (Sink_pre a b) = true
is_calm (Clears a b) = true
is_calm (Heal_grant h b) = true
is_calm (Heal_free b) = true
is_calm (Maker_grant b) = true
is_calm (Maker_free b) = true
is_calm (Mades b) = true
is_calm (Unmakes b) = true
is_calm (Stop b) = true
is_calm (Replace b) = true
is_calm e = false

abbrev pub Calm : List Act → Type 0
Calm [] = Unit {0}
Calm (e ∷ es) = (is_calm e ≡ true) × Calm es

pub calm_both : (xs ys : List Act) → Calm xs → Calm ys → Calm (xs ++ ys)
calm_both [] ys h i = i
calm_both (x ∷ xs) ys h i = (h.0, calm_both xs ys h.1 i)

pub calm_if : (t : Bool) (xs ys : List Act) → Calm xs → Calm ys → Calm (cond t xs ys)
calm_if true xs ys h i = h
calm_if false xs ys h i = i

calm_changed : (free : Act) (grant : ℕ → Act) → is_calm free ≡ true → ((i : ℕ) → is_calm (grant i) ≡ true) → (old new : Option ℕ) → Calm (acts_changed free grant old new)
calm_changed free grant h i old new = calm_if (same old new) [] (freed free old ++ granted grant new) tt (calm_both (freed free old) (granted grant new) (frees old) (grants new))
  where
    frees : (o : Option ℕ) → Calm (freed free o)
    frees None = tt
    frees (Some x) = (h, tt)

    grants : (o : Option ℕ) → Calm (granted grant o)
    grants None = tt
    grants (Some x) = (i x, tt)

calm_maker : (s : State) (b : ℕ) (old new : Bool) → Calm (acts_maker s b old new)
calm_maker s b false true = calm_if s.making [] (Maker_grant b ∷ []) tt (refl, tt)
calm_maker s b true false = (refl, tt)
calm_maker s b true true = tt
calm_maker s b false false = tt

pub calm_locks : (g : ℕ) (m : Net) (v : View) (b : ℕ) (old new : List Asking) → Calm (acts_locks g m v b old new)
calm_locks g m v b old new =
    calm_both (acts_changed (Heal_free b) (λ i. Heal_grant (call_of (m.said i)) b) (exclusive g Heal old) (exclusive g Heal new)) _ (calm_changed (Heal_free b) (λ i. Heal_grant (call_of (m.said i)) b) refl (λ i. refl) (exclusive g Heal old) (exclusive g Heal new))
    (calm_both (acts_changed (Free b) (λ i. Grant (v.of i) b) (exclusive g Inode old) (exclusive g Inode new)) _ (calm_changed (Free b) (λ i. Grant (v.of i) b) refl (λ i. refl) (exclusive g Inode old) (exclusive g Inode new))
    (calm_maker v.core b (has_directory m.said v.maker old) (has_directory m.said v.maker new)))

module _ {P V C U S : Type 0} (R : Reading P V C U S) (plans : Plans P V U S) (n k g : ℕ) where
  calm_step : (e : Act) (f : File P V C U S) → is_calm e ≡ true → Same f (step R.form n k f (dressed R plans n k g e))
  calm_step (Grant a b) f e = record { shape = refl; shape_of = refl; told = refl; took = refl; planned = refl; becomes = refl; seen = refl; making = refl }
  calm_step (Free b) f e = record { shape = refl; shape_of = refl; told = refl; took = refl; planned = refl; becomes = refl; seen = refl; making = refl }
  calm_step (Moment a) f e = record { shape = refl; shape_of = refl; told = refl; took = refl; planned = refl; becomes = refl; seen = refl; making = refl }
  calm_step (Pre a b) f e = record { shape = refl; shape_of = refl; told = refl; took = refl; planned = refl; becomes = refl; seen = refl; making = refl }
  calm_step (Sink_pre a b) f e = record { shape = refl; shape_of = refl; told = refl; took = refl; planned = refl; becomes = refl; seen = refl; making = refl }
  calm_step (Clears a b) f e = record { shape = refl; shape_of = refl; told = refl; took = refl; planned = refl; becomes = refl; seen = refl; making = refl }
  calm_step (Heal_grant h b) f e = record { shape = refl; shape_of = refl; told = refl; took = refl; planned = refl; becomes = refl; seen = refl; making = refl }
  calm_step (Heal_free b) f e = record { shape = refl; shape_of = refl; told = refl; took = refl; planned = refl; becomes = refl; seen = refl; making = refl }
  calm_step (Maker_grant b) f e = record { shape = refl; shape_of = refl; told = refl; took = refl; planned = refl; becomes = refl; seen = refl; making = refl }
  calm_step (Maker_free b) f e = record { shape = refl; shape_of = refl; told = refl; took = refl; planned = refl; becomes = refl; seen = refl; making = refl }
  calm_step (Mades b) f e = record { shape = refl; shape_of = refl; told = refl; took = refl; planned = refl; becomes = refl; seen = refl; making = refl }
  calm_step (Unmakes b) f e = record { shape = refl; shape_of = refl; told = refl; took = refl; planned = refl; becomes = refl; seen = refl; making = refl }
  calm_step (Stop b) f e = record { shape = refl; shape_of = refl; told = refl; took = refl; planned = refl; becomes = refl; seen = refl; making = refl }
  calm_step (Replace b) f e = record { shape = refl; shape_of = refl; told = refl; took = refl; planned = refl; becomes = refl; seen = refl; making = refl }
  calm_step e f h = absurd (cc)

  pub calm_acts : (es : List Act) (f : File P V C U S) → Calm es → Same f (after_deeds R.form n k (map (dressed R plans n k g) es) f)
  calm_acts [] f h = same_itself f
  calm_acts (e ∷ es) f h = same_then f (step R.form n k f (dressed R plans n k g e)) (after_deeds R.form n k (map (dressed R plans n k g) es) (step R.form n k f (dressed R plans n k g e))) (calm_step e f h.0) (calm_acts es (step R.form n k f (dressed R plans n k g e)) h.1)

  -- ## Data

  module _ (f : File P V C U S) where
    abbrev Keeps : List (Deed P V C U S) → Type 0
    Keeps ds = (Same f (after_deeds R.form n k ds f)) × ((after_deeds R.form n k ds f).heads ≡ f.heads)

    one_if : (t : Bool) (ds es : List (Deed P V C U S)) → Keeps ds → Keeps es → Keeps (cond t ds es)
    one_if true ds es h i = h
    one_if false ds es h i = i

    either : (t : Bool) (x y : Deed P V C U S) → Keeps (x ∷ []) → Keeps (y ∷ []) → Keeps (cond t x y ∷ [])
    either true x y h i = h
    either false x y h i = i

    none : Keeps []
    none = (same_itself f, refl)

    written : (a b : ℕ) (places : P → Bool) → Keeps (Write a b places ∷ [])
    written a b places = (record { shape = refl; shape_of = refl; told = refl; took = refl; planned = refl; becomes = refl; seen = refl; making = refl }, refl)

    torn : (a b : ℕ) (places : P → Bool) (pieces : P → C) → Keeps (Tear a b places pieces ∷ [])
    torn a b places pieces = (record { shape = refl; shape_of = refl; told = refl; took = refl; planned = refl; becomes = refl; seen = refl; making = refl }, refl)

    spoilt : (b : ℕ) (places : P → Bool) (pieces : P → C) → Keeps (Spoil b places pieces ∷ [])
    spoilt b places pieces = (record { shape = refl; shape_of = refl; told = refl; took = refl; planned = refl; becomes = refl; seen = refl; making = refl }, refl)

    got : (a b : ℕ) (places : P → Bool) → Keeps (Read a b places ∷ [])
    got a b places = (record { shape = refl; shape_of = refl; told = refl; took = refl; planned = refl; becomes = refl; seen = refl; making = refl }, refl)

    failed_keeps : (a b : ℕ) (q : Request) (version : Option ℕ) (old now : Brick) → Keeps (deeds_failed R plans n k g a b q version old now)
    failed_keeps a b q None old now = none
    failed_keeps a b q (Some version) old now = one_if (R.is_write g q && is_partial q) (deeds_partly R plans n k g a b q old now) [] (either (is_granted old q) (Tear a b (R.writes g q) (pieces_of R plans n k g (now.records g))) (Spoil b (R.writes g q) (pieces_of R plans n k g (now.records g))) (torn a b (R.writes g q) (pieces_of R plans n k g (now.records g))) (spoilt b (R.writes g q) (pieces_of R plans n k g (now.records g)))) none

    answered_keeps : (a b : ℕ) (q : Request) (old : Brick) (out : Out) → Keeps (deeds_answered R plans n k g f a b q old out)
    answered_keeps a b q old out = one_if (is_done out.says) _ _
        (one_if (R.is_write g q) (deeds_done R plans n k g a b q old out.brick) [] (either (is_granted old q) (Write a b (R.writes g q)) (Spoil b (R.writes g q) (pieces_of R plans n k g (out.brick.records g))) (written a b (R.writes g q)) (spoilt b (R.writes g q) (pieces_of R plans n k g (out.brick.records g)))) none)
        (one_if (shows out.says && R.is_read g q && is_at_base f.heads a b) (Read a b (R.reads g q) ∷ []) [] (got a b (R.reads g q)) none)

    pub request_keeps : (m : Net) (v : View) (msg : Message) (z : Body) (version : Option ℕ) (failed : Bool) → Keeps (deeds_of_request R plans n k g m v f msg z version failed)
    request_keeps m v msg (ToBrick q) version true = failed_keeps (v.of msg.no) msg.brick q version (m.brick msg.brick) (out_of m msg q version true).brick
    request_keeps m v msg (ToBrick q) version false = answered_keeps (v.of msg.no) msg.brick q (m.brick msg.brick) (out_of m msg q version false)
    request_keeps m v msg (ToClient re reply) version failed = none

    pub torn_keeps : (m : Net) (v : View) (o : Option Message) (count : ℕ) (version : Option ℕ) → Keeps (deeds_torn R plans n k g m v o count version)
    torn_keeps m v None count version = none
    torn_keeps m v (Some msg) count version = body msg.body
      where
        body : (z : Body) → Keeps (deeds_of_torn R plans n k g m v msg z count version)
        body (ToBrick q) = failed_keeps (v.of msg.no) msg.brick q version (m.brick msg.brick) (torn_out m msg q count version).brick
        body (ToClient re reply) = none

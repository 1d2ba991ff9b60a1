-- A brick cuts a write short over its store, and the others are as before.
use Rattle.std.proofs.Common.{◌≡◌, ℕ, ◌≤◌, Bool, true, false, Option, Some, None, List, length, map, sym, ◌∙◌, ap, subst, arith, length-set}
use Rattle.std.proofs.Math.ListN.{set}
use Rattle.std.proofs.lemmas.List.{length-map}
use Rattle.std.proofs.lemmas.Option.{slice_get_within}
use Rattle.std.specs.List.{list_all}
use Rattle.std.specs.Prelude.{slice_get, slice_index, is_some, Result, Ok, Err, IfOk, IfSome}
use Rattle.std.specs.declared.alloc.AllocError.{AllocError}
use Rattle.ec_brick.specs.Bytes.{bytes_in}
use Rattle.ec_brick.specs.Fit.{IsWriteOf}
use Rattle.ec_brick.specs.Index.{IndexIs}
use Rattle.ec_brick.specs.Meets.{TearsOff}
use Rattle.ec_brick.specs.Rows.{fence, row_of}
use Rattle.ec_brick.specs.State.{asks_of, indexed, state}
use Rattle.ec_brick.specs.Step.{stopped}
use Rattle.ec_brick.specs.declared.brick.Brick.{Brick}
use Rattle.ec_brick.specs.declared.row.Row.{Row}
use Rattle.ec_history.specs.IsRun.{HasBytes}
use Rattle.ec_store.specs.Causes.{Rose}
use Rattle.ec_store.specs.Records.{Records}
use Rattle.ec_wire.specs.declared.message.Body.TheVariants.{ToBrick}
use Rattle.ec_wire.specs.declared.message.Message.{Message}
use Rattle.ec_wire.specs.declared.reply.Reply.{Reply}
use Rattle.ec_wire.specs.declared.request.Request.{Request}
use Rattle.ec_wire.specs.declared.request.Request.TheVariants.{WriteChunks}
use Rattle.ec_cluster.proofs.Asking.{all_at, bricks_set, map_at, map_index, map_set, new_store, other_stores, stores_set}
use Rattle.ec_cluster.proofs.Saying.{set_at, set_off}
use Rattle.ec_cluster.specs.Tears.{TearsBrick, body_bytes, bytes_at, message_bytes}
use Rattle.ec_cluster.specs.Views.{bricks_of, flight}
use Rattle.ec_cluster.specs.declared.cluster.Cluster.{Cluster}

-- the bytes of a write that is in flight
pub bytes_is : (s : Cluster) (num : ℕ) (message : Message) (q : Request) → flight s num ≡ Some message → message.body ≡ ToBrick q → bytes_at s num ≡ bytes_in q
bytes_is s num message q there body = ap message_bytes there ∙ ap body_bytes body

pub has_bytes : (q : Request) (count : ℕ) → is_some (bytes_in q) ≡ true → IfSome (bytes_in q) (λ n. count ≤ n) → HasBytes q count
has_bytes (WriteChunks g k first chunks) count e h = h
has_bytes q count e h = absurd cc

fewer : (q : Request) (n count : ℕ) → IsWriteOf q n → count ≤ n → IsWriteOf q count
fewer (WriteChunks g k first chunks) n count h le = omega arith
fewer q n count h le = absurd h

-- as the chunks say
pub is_part : (q : Request) (count : ℕ) (r : Option ℕ) → r ≡ bytes_in q → IfSome r (IsWriteOf q) → is_some (bytes_in q) ≡ true → IfSome (bytes_in q) (λ n. count ≤ n) → IsWriteOf q count
is_part q count None e h some le = absurd (let k : false ≡ true = ap is_some e ∙ some in cc)
is_part q count (Some n) e h some le = fewer q n count h (subst (λ (o : Option ℕ). IfSome o (λ n. count ≤ n)) (sym e) le)

-- what a call of a brick over its store ensures
pub record Ran {S : Type 0} (told : S → Bool) (records : S → Records) (faults : S → ℕ) (old new : Brick) (x y : S) (q : Request) (count : ℕ) (r : Result (Option ℕ) AllocError) : Type 0 where
  pub does : IfOk r (λ v. told x ≡ true → TearsOff (Rose (faults x) (faults y)) (state old (records x)) q count v (state new (records y)))
  pub stops : IfOk r (λ v. (m : Records) → state new m ≡ stopped (state old m))
  pub unread : r ≡ Ok None → told x ≡ true → records y ≡ records x
  pub fenced : (w : Row) (z : Reply) → row_of q ≡ Some w → fence (asks_of old) w ≡ Some z → (r ≡ Ok None) × (y ≡ x)
  pub same_index : indexed new ≡ indexed old
  pub index : told x ≡ true → IndexIs (indexed old) (records x) → IndexIs (indexed new) (records y)

module _ {S : Type 0} (told : S → Bool) (records : S → Records) (faults : S → ℕ) (s t : Cluster) (stores : List S) (i : ℕ) (old new : Brick) (x y : S) (message : Message) (q : Request) (count : ℕ) (kept : t ≡ record s { bricks = t.bricks }) (at : i ≡ message.brick) (bricks : bricks_of t ≡ set (bricks_of s) i new) (was : slice_get (bricks_of s) message.brick ≡ Some old) (is : slice_get stores message.brick ≡ Some x) where
  now_bricks : bricks_of t ≡ set (bricks_of s) message.brick new
  now_bricks = bricks_set told records faults s t stores i old new x y message q kept at bricks was is

  now_stores : set stores i y ≡ set stores message.brick y
  now_stores = stores_set told records faults s t stores i old new x y message q kept at bricks was is

  now_store : slice_get (set stores i y) message.brick ≡ Some y
  now_store = new_store told records faults s t stores i old new x y message q kept at bricks was is

  tell : list_all told stores ≡ true → told x ≡ true
  tell tells = all_at told stores message.brick x tells is

  old_is : (r : Records) → slice_get (map records stores) message.brick ≡ Some r → r ≡ records x
  old_is r e = map_at records stores message.brick x r is e

  new_is : (r : Records) → slice_get (map records (set stores i y)) message.brick ≡ Some r → r ≡ records y
  new_is r e = map_at records (set stores i y) message.brick y r now_store e

  abbrev OffBy : ℕ → ℕ → Records → Records → Option ℕ → Type 0
  OffBy f h r z version = TearsOff (Rose f h) (state old r) q count version (state new z)

  tears_ok : (version : Option ℕ) → Ran told records faults old new x y q count (Ok version) → TearsBrick (list_all told stores ≡ true) s t (map records stores) (map records (set stores i y)) (map faults stores) (map faults (set stores i y)) message q count version
  tears_ok version ran = record {
    kept = kept;
    old = old;
    new = new;
    was = was;
    is = (λ k. slice_get (now_bricks k) message.brick) ∙ set_at (bricks_of s) message.brick new (slice_get_within (bricks_of s) message.brick old was);
    others = λ b n. ((λ k. slice_get (now_bricks k) b) ∙ set_off (bricks_of s) message.brick b new n, other_stores told records faults s t stores i old new x y message q kept at bricks was is b n);
    size = ap (λ (l : List Brick). length l) bricks ∙ length-set (bricks_of s) i new;
    stores = length-map (set stores i y) records ∙ (length-set stores i y ∙ sym (length-map stores records));
    stops = ran.stops;
    same_index = ran.same_index;
    fence = λ w z row f. (let h = (ran.fenced w z row f).0 in cc);
    unread = λ none tells. ap (map records) now_stores ∙ map_set records stores message.brick x y is (ran.unread (ap Ok none) (tell tells));
    tears = λ tells r z before after.
        let a = map_index faults stores message.brick x is in
        let b = map_index faults (set stores i y) message.brick y now_store in
        subst (λ n. OffBy n (slice_index (map faults (set stores i y)) message.brick) r z version) (sym a) (subst (λ n. OffBy (faults x) n r z version) (sym b) (subst (λ (o : Records). OffBy (faults x) (faults y) o z version) (sym (old_is r before)) (subst (λ (o : Records). OffBy (faults x) (faults y) (records x) o version) (sym (new_is z after)) (ran.does (tell tells)))));
    index = λ tells r z before after index. subst (IndexIs (indexed new)) (sym (new_is z after)) (ran.index (tell tells) (subst (IndexIs (indexed old)) (old_is r before) index));
  }

  pub tears_brick : (r : Result (Option ℕ) AllocError) → Ran told records faults old new x y q count r → IfOk r (TearsBrick (list_all told stores ≡ true) s t (map records stores) (map records (set stores i y)) (map faults stores) (map faults (set stores i y)) message q count)
  tears_brick (Ok version) ran = tears_ok version ran
  tears_brick (Err e) ran = tt

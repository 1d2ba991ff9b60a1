-- A cluster at its beginning.
use Rattle.std.proofs.Common.{◌≡◌, true, Some, None, List, [], length, refl, sym, ◌∙◌, ap, subst, arith}
use Rattle.std.specs.List.{All}
use Rattle.std.specs.Prelude.{is_some, slice_get}
use Rattle.ec_attr.specs.declared.config.Config.{Config}
use Rattle.ec_brick.specs.Known.{IsKnownState}
use Rattle.ec_brick.specs.KnownLaws.{KnownLaws}
use Rattle.ec_brick.specs.Opening.{IsForeign}
use Rattle.ec_brick.specs.StartFault.{is_of_store}
use Rattle.ec_brick.specs.State.{State, asks_of, state}
use Rattle.ec_brick.specs.declared.brick.Brick.{Brick}
use Rattle.ec_brick.specs.declared.start_fault.StartFault.{StartFault}
use Rattle.ec_brick.specs.declared.start_fault.StartFault.TheVariants.{Failed, Config as OtherConfig, Head, NoMemory}
use Rattle.ec_history.specs.Run.{fresh}
use Rattle.ec_store.specs.Records.{Records}
use Rattle.ec_cluster.specs.Matches.{Matches}
use Rattle.ec_cluster.specs.Open.{AreOpened, IsEmpty, opened, opened_state, or_none}
use Rattle.ec_cluster.specs.Said.{said_in}
use Rattle.ec_cluster.specs.Sound.{ArePlaced, IsAsked, IsSound}
use Rattle.ec_cluster.specs.Views.{bricks_of, log_of, next_of, places_of}
use Rattle.ec_cluster.specs.declared.cluster.Cluster.{Cluster}

pub opened_as : (T U : Type 0) (config : Config) (bricks : List Brick) (r q : List Records) → AreOpened T config bricks r → (U → T) → (U → q ≡ r) → AreOpened U config bricks q
opened_as T U config bricks r q h f e = record { states = h.states; index = λ u b k x at stored. h.index (f u) b k x at (sym (ap (λ l. slice_get l b) (e u)) ∙ stored) }

nothing_placed : ArePlaced [] [] 1
nothing_placed = record { each = λ i p e. absurd (let h : None ≡ Some p = e in cc); none_later = λ i le. refl; no_zero = refl; count = refl }

pub empty_sound : (T : Type 0) (c : Cluster) (config : Config) (bricks : List Brick) (records : List Records) → IsEmpty c → bricks_of c ≡ bricks → AreOpened T config bricks records → IsSound c
empty_sound T c config bricks records h b o = record {
  flies = λ i m e. absurd (let k = h.flies i in cc);
  asks = λ i k e. let none : asks_of k ≡ [] = ap (λ (s : State). s.asks) (o.states i k (ap (λ l. slice_get l i) (sym b) ∙ e) (λ g. None)) in subst (All (IsAsked (said_in (log_of c)) i)) (sym none) (λ n a lt. absurd (omega arith));
  placed = subst (λ l. ArePlaced l (places_of c) (next_of c)) (sym h.log) (subst (λ p. ArePlaced [] p (next_of c)) (sym h.places) (subst (ArePlaced [] []) (sym h.next) nothing_placed));
  limit = (let n = h.next in omega arith);
}

pub empty_matches : (T : Type 0) (laws : KnownLaws) (c : Cluster) (config : Config) (bricks : List Brick) (records : List Records) → T → IsEmpty c → bricks_of c ≡ bricks → AreOpened T config bricks records → length records ≡ length bricks → Matches c records (fresh (opened config records))
empty_matches T laws c config bricks records told h b o len = record {
  next = sym h.next;
  said = (λ i. said_in (sym h.log i));
  flies = λ i. ap is_some (sym (h.flies i));
  bricks = λ x k r at stored.
      let at_brick : slice_get bricks x ≡ Some k = ap (λ l. slice_get l x) (sym b) ∙ at in
      let known : IsKnownState (opened_state config r) (state k r) = subst (IsKnownState (opened_state config r)) (sym (o.states x k at_brick r)) (laws.same (opened_state config r)) in
      record { known = subst (λ (q : Records). IsKnownState (opened_state config q) (state k r)) (sym (ap or_none stored)) known; index = o.index told x k r at_brick stored };
  stores = len ∙ ap (λ (l : List Brick). length l) (sym b);
  owes = refl;
}

pub not_foreign : (config : Config) (e : StartFault) → is_of_store e ≡ true → IsForeign config e
not_foreign config Failed h = tt
not_foreign config (OtherConfig c) h = absurd cc
not_foreign config (Head g) h = absurd cc
not_foreign config NoMemory h = tt

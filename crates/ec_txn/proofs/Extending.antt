-- Sends that are added brick by brick.
use Rattle.std.proofs.Common.{◌≡◌, ℕ, suc, ◌+◌, ◌<◌, ◌≤◌, refl, sym, ◌∙◌, ap, subst, List, [], ◌∷◌, ◌++◌, length, arith, append_assoc, append-nil, add-one, length-append, Option, Some, None}
use Rattle.std.specs.Prelude.{All, map}
use Rattle.std.proofs.lemmas.List.Elements.{All-nil, All-cons, All-append}
use Rattle.ec_wire.specs.declared.request.Request.{Request}
use Rattle.ec_conduct.specs.Table.{Send, to_bricks}
use Rattle.ec_txn.specs.Lists.{Extends}
use Rattle.ec_txn.specs.Rounds.{one}

pub extends_none : (n : ℕ) (old : List Send) → Extends n 0 old old
extends_none n old = record { few = omega arith; below = λ h. h }

pub extends_more : (n b : ℕ) (old s t : List Send) (o : Option Request) → b < n → t ≡ s ++ map (λ r. (b, r)) (one o) → Extends n b old s → Extends n (b + 1) old t
extends_more n b old s t None l e x = let f : t ≡ s = e ∙ append-nil s in subst (Extends n (b + 1) old) (sym f) (record { few = omega (arith, x.few); below = x.below })
extends_more n b old s t (Some r) l e x = subst (Extends n (b + 1) old) (sym e) (record {
  few = omega (arith, x.few, length-append s ((b, r) ∷ []));
  below = λ h. All-append (λ (s : Send). s.0 < n) s ((b, r) ∷ []) (x.below h) (All-cons (λ (s : Send). s.0 < n) (b, r) [] l (All-nil (λ (s : Send). s.0 < n)));
})

pub sends_more : (b : ℕ) (f : ℕ → List Request) (old s t : List Send) (rs : List Request) → s ≡ old ++ to_bricks b f → t ≡ s ++ map (λ r. (b, r)) rs → rs ≡ f b → t ≡ old ++ to_bricks (b + 1) f
sends_more b f old s t rs e h q =
    let more : to_bricks (b + 1) f ≡ to_bricks b f ++ map (λ (r : Request). (b, r)) (f b) = ap (λ (m : ℕ). to_bricks m f) (add-one b) in
    h ∙ ((λ j. e j ++ map (λ (r : Request). (b, r)) (q j)) ∙ (append_assoc old (to_bricks b f) (map (λ (r : Request). (b, r)) (f b)) ∙ ap (λ (v : List Send). old ++ v) (sym more)))

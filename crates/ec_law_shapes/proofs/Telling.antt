-- What was told of shapes goes on where the turns that were told see nothing anew.
use Rattle.std.proofs.Common.{◌≡◌, ◌⊎◌, ℕ, Bool, true, false, cond, ◌==◌, Option, Some, None, refl, sym, ◌∙◌, subst, inl, inr}
use Rattle.ec_attr.specs.Marks.{is_marked}
use Rattle.ec_attr.specs.declared.gfid.Gfid.{Gfid}
use Rattle.ec_store.specs.Put.{put}
use Rattle.ec_wire.specs.declared.message.Body.TheVariants.{ToBrick}
use Rattle.ec_wire.specs.declared.message.Message.{Message}
use Rattle.ec_wire.specs.declared.reply.Reply.{Reply}
use Rattle.ec_wire.specs.declared.reply.Reply.TheVariants.{Head as HeadIs}
use Rattle.ec_wire.specs.declared.request.Request.{Request}
use Rattle.ec_wire.specs.declared.request.Request.TheVariants.{Query}
use Rattle.ec_law_base.specs.State.{State}
use Rattle.ec_law_data.specs.Forms.{Shape}
use Rattle.ec_law_shapes.specs.Shapes.{IsShape, TellsShape, head_shape}

module _ (g : ℕ) (said said' : ℕ → Option Message) (flying flying' : ℕ → Bool) (of of' : ℕ → ℕ) (s s' : State) (told told' : ℕ → ℕ → Shape)
    (still : (i : ℕ) (x : Message) → said i ≡ Some x → flying i ≡ false → (said' i ≡ Some x) × (flying' i ≡ false) × (of' i ≡ of i))
    (looks : (i : ℕ) (x : Message) (y : Gfid) (n : ℕ) → said i ≡ Some x → flying i ≡ false → x.body ≡ ToBrick (Query y n) → y.0 ≡ g → (s'.seen (of i) x.brick ≡ s.seen (of i) x.brick) × (told' (of i) x.brick ≡ told (of i) x.brick)) where
  pub is_shape_later : (i : ℕ) (reply : Reply) → IsShape g said flying of s told i reply → IsShape g said' flying' of' s' told' i reply
  is_shape_later i reply h =
      let o = still i h.message h.is h.landed in
      record { message = h.message; is = o.0; landed = o.1; at = λ q body. subst (λ (t : ℕ). TellsShape g s' told' t h.message.brick q reply) (sym o.2) (by q body reply (h.at q body)) }
    where
      by : (q : Request) → h.message.body ≡ ToBrick q → (reply : Reply) → TellsShape g s told (of i) h.message.brick q reply → TellsShape g s' told' (of i) h.message.brick q reply
      by (Query y n) body (HeadIs z) t = λ on. let o = looks i h.message y n h.is h.landed body on in goes o.0 o.1 (t on)
        where
          goes : s'.seen (of i) h.message.brick ≡ s.seen (of i) h.message.brick → told' (of i) h.message.brick ≡ told (of i) h.message.brick → (s.seen (of i) h.message.brick ≡ None) ⊎ (is_marked z.version.content ≡ false → told (of i) h.message.brick ≡ head_shape z) → (s'.seen (of i) h.message.brick ≡ None) ⊎ (is_marked z.version.content ≡ false → told' (of i) h.message.brick ≡ head_shape z)
          goes e f (inl none) = inl (e ∙ none)
          goes e f (inr k) = inr (λ clear. f ∙ k clear)
      by q body reply t = tt

-- a message that has arrived has so after another one has
pub landed_still : (flying : ℕ → Bool) (i j : ℕ) → flying j ≡ false → put flying i false j ≡ false
landed_still flying i j e = at (j == i)
  where
    at : (t : Bool) → cond t false (flying j) ≡ false
    at true = refl
    at false = e

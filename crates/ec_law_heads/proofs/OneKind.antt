-- In the log of a world the Makes of a call are of one kind.
use Rattle.std.proofs.Common.{◌≡◌, ⊎_elim, ℕ, true, refl, sym, ◌∙◌, ap, subst, List, [], ◌∷◌, ◌++◌, Option, Some}
use Rattle.std.specs.Prelude.{is_some}
use Rattle.ec_attr.specs.declared.geometry.Geometry.{Geometry}
use Rattle.ec_attr.specs.declared.gfid.Gfid.{Gfid}
use Rattle.ec_attr.specs.declared.kind.Child.{Child}
use Rattle.ec_attr.specs.declared.kind.Kind.{Kind}
use Rattle.ec_conduct.specs.Own.{Own, Sends}
use Rattle.ec_history.specs.Accounts.{Books, Leaving, booked, books}
use Rattle.ec_history.specs.IsRun.{IsRun, May, MaySay}
use Rattle.ec_history.specs.Run.{Net, after, run}
use Rattle.ec_history.specs.Story.{Story, told}
use Rattle.ec_wire.specs.declared.entry.Entry.{Entry}
use Rattle.ec_wire.specs.declared.entry.Entry.TheVariants.{Sent, Executed, Heard, Torn}
use Rattle.ec_wire.specs.declared.message.Body.{Body}
use Rattle.ec_wire.specs.declared.message.Body.TheVariants.{ToBrick}
use Rattle.ec_wire.specs.declared.message.Message.{Message}
use Rattle.ec_wire.specs.declared.request.Request.TheVariants.{Make}
use Rattle.ec_law_net.specs.Turns.{View, seen_after}
use Rattle.ec_law_net.proofs.Conducts.{log_grows, sent_own, together}
use Rattle.ec_law_turns.specs.Laws.{Always}
use Rattle.ec_law_turns.proofs.Basics.{put_some, some_is}
use Rattle.ec_law_turns.proofs.Steps.{executed_same, heard_same, torn_same}
use Rattle.ec_law_parts.specs.Names.{EachSends}
use Rattle.ec_law_parts.proofs.OneTurn.{asker_stays, askers_stay}
use Rattle.ec_law_heads.specs.Laws.{MakesOneKind}
use Rattle.ec_law_heads.specs.Making.{IsOfKind}
use Rattle.ec_law_heads.proofs.Calling.{sends_there}

-- Each Make that was sent is of its call's kind.
pub record Kinded (kind : ℕ → Option Kind) (said : ℕ → Option Message) : Type 0 where
  pub makes : (i : ℕ) (x : Message) (d : Gfid) (n : ℕ) (child : Child) → said i ≡ Some x → x.body ≡ ToBrick (Make d n child) → kind x.call ≡ Some child.kind

one_kind : (kind : ℕ → Option Kind) (g : ℕ) (m : Net) (v : View) → Kinded kind m.said → MakesOneKind g m v
one_kind kind g m v h i j x y d e n k child other is its body its_body on its_on same = same_kind child.kind other.kind (sym (h.makes i x d n child is body) ∙ (ap kind same ∙ h.makes j y e k other its its_body))
  where
    same_kind : (a b : Kind) → Some a ≡ Some b → a ≡ b
    same_kind a b e = cc

module _ (geometry : Geometry) (left : ℕ → Leaving) (g : ℕ) (kind : ℕ → Option Kind) where
  -- each call that was made by the end of these entries sends, in the whole, only Makes of its kind
  abbrev Keep : List Entry → Net → Story → Books → Type 0
  Keep es m t b = (a : ℕ) → is_some ((run es m).asker a) ≡ true → EachSends (IsOfKind (kind a)) ((books geometry left es m t b).own a)

  module _ (m : Net) (v : View) (t : Story) (b : Books) (h : Kinded kind m.said) where
    same : (k : Net) → k.said ≡ m.said → Kinded kind k.said
    same k said = record { makes = λ i x d n child is. h.makes i x d n child (sym (ap (λ (f : ℕ → Option Message). f i) said) ∙ is) }

    sent : (msg : Message) → May geometry.n m (Sent msg) → (es : List Entry) → Keep (Sent msg ∷ es) m t b → Kinded kind (after m (Sent msg)).said
    sent msg may es keep = record { makes = λ i x d n child is body. ⊎_elim (λ z. now i x d n child (some_is msg x z.1) body) (λ z. h.makes i x d n child z.1 body) (put_some m.said msg.no (Some msg) i x is) }
      where
        own : (d : Gfid) (n : ℕ) (child : Child) → msg.body ≡ ToBrick (Make d n child) → kind msg.call ≡ Some child.kind
        own d n child body =
            let asker = subst (λ (z : Body). MaySay geometry.n m msg z) body may.1 in
            let made : is_some (m.asker msg.call) ≡ true = ap is_some asker.made in
            let more = log_grows geometry left es (after m (Sent msg)) (told geometry m t (Sent msg)) (booked geometry left m t b (Sent msg)) msg.call in
            let own = more.1 ∙ (ap (λ (xs : List Own). xs ++ more.0) (sent_own m b msg (Make d n child) msg.body msg.call body refl) ∙ together (b.own msg.call) (Sends msg.brick msg.no (Make d n child) ∷ []) more.0) in
            sends_there (IsOfKind (kind msg.call)) (b.own msg.call) msg.brick msg.no (Make d n child) more.0 (subst (EachSends (IsOfKind (kind msg.call))) own (keep msg.call (askers_stay es (after m (Sent msg)) msg.call (asker_stays m (Sent msg) msg.call made))))

        now : (i : ℕ) (x : Message) (d : Gfid) (n : ℕ) (child : Child) → msg ≡ x → x.body ≡ ToBrick (Make d n child) → kind x.call ≡ Some child.kind
        now i x d n child is body = subst (λ (y : Message). kind y.call ≡ Some child.kind) is (own d n child (ap (λ (y : Message). y.body) is ∙ body))

    entry_after : (e : Entry) (es : List Entry) → May geometry.n m e → Keep (e ∷ es) m t b → Kinded kind (after m e).said
    entry_after (Sent msg) es may keep = sent msg may es keep
    entry_after (Executed i version failed) es may keep = same (after m (Executed i version failed)) (executed_same m (m.said i) version failed).0
    entry_after (Heard i) es may keep = same (after m (Heard i)) (heard_same m (m.said i)).0
    entry_after (Torn i bytes version) es may keep = same (after m (Torn i bytes version)) (torn_same m (m.said i) bytes version).0
    entry_after e es may keep = same (after m e) refl

  pub always_kind : (es : List Entry) (m : Net) (v : View) (t : Story) (b : Books) → IsRun geometry.n es m → Keep es m t b → Kinded kind m.said → Always (MakesOneKind g) g es m v
  always_kind [] m v t b runs keep h = one_kind kind g m v h
  always_kind (e ∷ es) m v t b runs keep h = (one_kind kind g m v h, always_kind es (after m e) (seen_after g m v e) (told geometry m t e) (booked geometry left m t b e) runs.1 keep (entry_after m v t b h e es runs.0 keep))

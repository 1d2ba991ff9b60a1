-- The link after entries: where one brick changes, where a message is sent, and where nothing that it speaks of does.
use Rattle.std.proofs.Common.{◌≡◌, ◌≢◌, ℕ, ◌<◌, ◌≤◌, Bool, true, false, cond, ◌==◌, ◌&&◌, Option, Some, List, [], ◌∷◌, ◌++◌, refl, sym, ◌∙◌, ap, subst, arith}
use Rattle.std.proofs.lemmas.Bool.Decides.{nat_tests}
use Rattle.std.specs.Option.{option_map}
use Rattle.ec_law_base.specs.State.{State}
use Rattle.ec_law_net.specs.Turns.{View}
use Rattle.ec_law_net.specs.Link.{IsHead}
use Rattle.ec_attr.specs.declared.kind.Domain.{Domain}
use Rattle.ec_attr.specs.declared.kind.Domain.TheVariants.{Inode, Heal}
use Rattle.ec_locks.specs.Table.{free, is_exclusive, same_domain}
use Rattle.ec_locks.specs.declared.ask.Ask.{Ask as Asking}
use Rattle.ec_store.specs.Put.{put}
use Rattle.ec_store.specs.Records.{head_at}
use Rattle.ec_wire.specs.declared.message.Body.TheVariants.{ToBrick}
use Rattle.ec_wire.specs.declared.message.Message.{Message}
use Rattle.ec_wire.specs.declared.request.Request.{Request}
use Rattle.ec_brick.specs.State.{State as Brick}
use Rattle.ec_history.specs.Run.{Net, call_of}
use Rattle.ec_law_net.specs.Turns.{exclusive, exclusive_from, has_directory}
use Rattle.ec_law_net.specs.Link.{Below, Linked}
use Rattle.ec_law_net.proofs.Standing.{Stands, head_moves}

-- one brick is another, and messages and numbers are as they were
pub record Replaces (m t : Net) (b : ℕ) (new : Brick) : Type 0 where
  pub brick : (c : ℕ) → t.brick c ≡ put m.brick b new c
  pub said : t.said ≡ m.said
  pub next : t.next ≡ m.next

pub linked_brick : (n g : ℕ) (m t : Net) (v : View) (b : ℕ) (new : Brick) (s : State) → Linked n g m v → Replaces m t b new → Stands g m v b s new → (b < n → Below m.next new.asks) → (new.up ≡ false → (new.asks ≡ []) × (new.removed g ≡ false)) → Linked n g t (record v { core = s })
linked_brick n g m t v b new s l r h below down = record {
  heads = λ c lt. at c (λ (z : Brick). IsHead (head_at z.records g) s c) (λ e. subst (λ (x : ℕ). IsHead (head_at new.records g) s x) (sym e) h.head) (λ ne. head_moves (head_at (m.brick c).records g) v.core s c (l.heads c lt) (h.present c ne) (h.version c ne) (h.marked c ne) (h.dirty c ne));
  removed = λ c lt. at c (λ (z : Brick). s.removed c ≡ z.removed g) (λ e. ap s.removed e ∙ h.unmade) (λ ne. h.removed c ne ∙ l.removed c lt);
  holders = λ c lt. at c (λ (z : Brick). s.holder c ≡ option_map v.of (exclusive g Inode z.asks)) (λ e. ap s.holder e ∙ h.holds) (λ ne. h.holder c ne ∙ l.holders c lt);
  healers = λ c lt. subst (λ (said : ℕ → Option Message). s.healer c ≡ option_map (λ i. call_of (said i)) (exclusive g Heal (t.brick c).asks)) (sym r.said) (at c (λ (z : Brick). s.healer c ≡ option_map (λ i. call_of (m.said i)) (exclusive g Heal z.asks)) (λ e. ap s.healer e ∙ h.heals) (λ ne. h.healer c ne ∙ l.healers c lt));
  makers = λ c lt. subst (λ (said : ℕ → Option Message). s.maker c ≡ true → has_directory said v.maker (t.brick c).asks ≡ true) (sym r.said) (at c (λ (z : Brick). s.maker c ≡ true → has_directory m.said v.maker z.asks ≡ true) (λ e k. h.makes (sym (ap s.maker e) ∙ k)) (λ ne k. l.makers c lt (sym (h.maker c ne) ∙ k)));
  kept = h.carries;
  shared = h.shares;
  reading = h.reads;
  said = subst (λ (said : ℕ → Option Message). (i : ℕ) (msg : Message) → said i ≡ Some msg → (msg.no ≡ i) × (i < t.next)) (sym r.said) (subst (λ (x : ℕ). (i : ℕ) (msg : Message) → m.said i ≡ Some msg → (msg.no ≡ i) × (i < x)) (sym r.next) l.said);
  to = subst (λ (said : ℕ → Option Message). (i : ℕ) (msg : Message) (q : Request) → said i ≡ Some msg → msg.body ≡ ToBrick q → msg.brick < n) (sym r.said) l.to;
  asked = λ c lt. subst (λ (x : ℕ). Below x (t.brick c).asks) (sym r.next) (at c (λ (z : Brick). Below m.next z.asks) (λ e. below (subst (λ (x : ℕ). x < n) e lt)) (λ ne. l.asked c lt));
  down = λ c lt. (λ u. let f = at c (λ (z : Brick). z.up ≡ false → (z.asks ≡ []) × (z.removed g ≡ false)) (λ e. down) (λ ne w. let o = l.down c lt w in (o.asks, o.removed)) u in record { asks = f.0; removed = f.1 });
}
  where
    at : (c : ℕ) (P : Brick → Type 0) → (c ≡ b → P new) → (c ≢ b → P (m.brick c)) → P (t.brick c)
    at c P one other = subst P (sym (r.brick c)) (either (c == b) refl)
      where
        either : (u : Bool) → (c == b) ≡ u → P (cond u new (m.brick c))
        either true e = one (grind (arith, nat_tests))
        either false e = other (λ (z : c ≡ b). grind (arith, nat_tests))

-- nothing of bricks and messages changes, and the machine stands
pub linked_same : (n g : ℕ) (m t : Net) (v : View) → Linked n g m v → t.brick ≡ m.brick → t.said ≡ m.said → t.next ≡ m.next → Linked n g t v
linked_same n g m t v l brick said next = record {
  heads = subst (λ (f : ℕ → Brick). (b : ℕ) → b < n → IsHead (head_at (f b).records g) v.core b) (sym brick) l.heads;
  removed = subst (λ (f : ℕ → Brick). (b : ℕ) → b < n → v.core.removed b ≡ (f b).removed g) (sym brick) l.removed;
  holders = subst (λ (f : ℕ → Brick). (b : ℕ) → b < n → v.core.holder b ≡ option_map v.of (exclusive g Inode (f b).asks)) (sym brick) l.holders;
  healers = subst (λ (f : ℕ → Brick). (b : ℕ) → b < n → v.core.healer b ≡ option_map (λ i. call_of (t.said i)) (exclusive g Heal (f b).asks)) (sym brick) (subst (λ (s : ℕ → Option Message). (b : ℕ) → b < n → v.core.healer b ≡ option_map (λ i. call_of (s i)) (exclusive g Heal (m.brick b).asks)) (sym said) l.healers);
  makers = subst (λ (f : ℕ → Brick). (b : ℕ) → b < n → v.core.maker b ≡ true → has_directory t.said v.maker (f b).asks ≡ true) (sym brick) (subst (λ (s : ℕ → Option Message). (b : ℕ) → b < n → v.core.maker b ≡ true → has_directory s v.maker (m.brick b).asks ≡ true) (sym said) l.makers);
  kept = l.kept;
  shared = l.shared;
  reading = l.reading;
  said = subst (λ (s : ℕ → Option Message). (i : ℕ) (msg : Message) → s i ≡ Some msg → (msg.no ≡ i) × (i < t.next)) (sym said) (subst (λ (x : ℕ). (i : ℕ) (msg : Message) → m.said i ≡ Some msg → (msg.no ≡ i) × (i < x)) (sym next) l.said);
  to = subst (λ (s : ℕ → Option Message). (i : ℕ) (msg : Message) (q : Request) → s i ≡ Some msg → msg.body ≡ ToBrick q → msg.brick < n) (sym said) l.to;
  asked = subst (λ (x : ℕ). (b : ℕ) → b < n → Below x (t.brick b).asks) (sym next) (subst (λ (f : ℕ → Brick). (b : ℕ) → b < n → Below m.next (f b).asks) (sym brick) l.asked);
  down = λ b lt up. let o = subst (λ (f : ℕ → Brick). (b : ℕ) → b < n → (f b).up ≡ false → ((f b).asks ≡ []) × ((f b).removed g ≡ false)) (sym brick) (λ c le u. let d = l.down c le u in (d.asks, d.removed)) b lt up in record { asks = o.0; removed = o.1 };
}

-- an exclusive grant is of an ask that came before
pub below_some : (next g : ℕ) (d : Domain) (before asks : List Asking) (i : ℕ) → Below next asks → exclusive_from g d before asks ≡ Some i → i < next
below_some next g d before [] i w e = absurd (cc)
below_some next g d before (a ∷ asks) i w e = go (below_some next g d (before ++ a ∷ []) asks i w.1) (free before a && ((a.gfid.0 == g) && same_domain a.domain d && is_exclusive a.kind)) e
  where
    go : (exclusive_from g d (before ++ a ∷ []) asks ≡ Some i → i < next) → (t : Bool) → cond t (Some a.number) (exclusive_from g d (before ++ a ∷ []) asks) ≡ Some i → i < next
    go h true f = let x = w.0 in grind (arith)
    go h false f = h f

pub below_more : (x y : ℕ) → x ≤ y → (asks : List Asking) → Below x asks → Below y asks
below_more x y le [] w = tt
below_more x y le (a ∷ asks) w = (let z = w.0 in omega arith, below_more x y le asks w.1)

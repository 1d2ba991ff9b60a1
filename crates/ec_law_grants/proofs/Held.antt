-- While a grant stands and nothing alters the record under it, the record is as it was; and a record that comes is a new one.
use Rattle.std.proofs.Common.{◌≡◌, ◌⊎◌, ℕ, ◌<◌, ◌≤◌, true, false, Option, Some, None, List, refl, sym, ◌∙◌, ap, subst, inl, inr}
use Rattle.ec_attr.specs.Head.{with_dirty}
use Rattle.ec_attr.specs.declared.config.Config.{Config}
use Rattle.ec_attr.specs.declared.gfid.Gfid.{Gfid}
use Rattle.ec_attr.specs.declared.kind.Domain.{Domain}
use Rattle.ec_attr.specs.declared.kind.Domain.TheVariants.{Inode}
use Rattle.ec_attr.specs.declared.kind.LockKind.{LockKind}
use Rattle.ec_attr.specs.declared.kind.LockKind.TheVariants.{Exclusive}
use Rattle.ec_brick.specs.Work.{new_head}
use Rattle.ec_locks.specs.Table.{has, holds}
use Rattle.ec_locks.specs.declared.ask.Ask.{Ask as Asking}
use Rattle.ec_locks.proofs.Laws.{laws}
use Rattle.ec_store.specs.Records.{Record, empty}
use Rattle.ec_history.specs.Accounts.{Books}
use Rattle.ec_history.specs.IsRun.{May as MayEnter}
use Rattle.ec_history.specs.Run.{Net, after}
use Rattle.ec_history.specs.Story.{Story}
use Rattle.ec_wire.specs.declared.entry.Entry.{Entry}
use Rattle.ec_wire.specs.declared.message.Message.{Message}
use Rattle.ec_law_net.specs.Turns.{View, seen_after}
use Rattle.ec_law_turns.proofs.Basics.{some_none}
use Rattle.ec_law_data.proofs.Reaching.{Reaches}
use Rattle.ec_law_grants.specs.Became.{Became}
use Rattle.ec_law_grants.specs.Laws.{NoneAlters}
use Rattle.ec_law_grants.proofs.Changing.{Altered, Born, Change, Gone, Grown, IsAltered, IsBorn, IsGrown, Same}
use Rattle.ec_law_grants.proofs.Entries.{Did, Does, EntryChange, Removed, Unchanged, entry_change, unhealed}
use Rattle.ec_law_grants.proofs.Lasting.{asks_entry, lands_entry, said_entry}
use Rattle.ec_law_grants.proofs.Making.{Had, had_not, had_then, is_new}
use Rattle.ec_law_grants.proofs.Tables.{IsGoneOrHeld}

-- ## What may become of it

pub became_same : (config : Config) (o : Option Record) → Became config o o
became_same config None = tt
became_same config (Some r) = (r.head.dirty.content, refl)

became_none : (config : Config) (o : Option Record) → Became config o None
became_none config None = tt
became_none config (Some r) = tt

became_grown : (config : Config) (o : Option Record) (r : Record) → Became config o (Some r) → Became config o (Some (record r { head = with_dirty 0 r.head }))
became_grown config None r h = (h.0, 0, ap (λ (z : Record). record z { head = with_dirty 0 z.head }) h.2)
became_grown config (Some s) r h = (0, ap (λ (z : Record). record z { head = with_dirty 0 z.head }) h.1)

-- ## Entries

-- message i is an ask that stands, and the record that was there, or was not, became what it may become
pub record HeldSo (config : Config) (first g b i : ℕ) (gfid : Gfid) (kind : LockKind) (was : Option Record) (m : Net) (v : View) : Type 0 where
  pub stands : holds (m.brick b).asks i gfid Inode kind ≡ true
  pub became : Became config was ((m.brick b).records g)
  pub once : (was ≡ None) ⊎ Had first g v b

-- The ask has arrived; it is gone, or stands so, as long as nothing under it alters the record.
pub record Holding (config : Config) (first g b i : ℕ) (gfid : Gfid) (kind : LockKind) (was : Option Record) (m : Net) (v : View) : Type 0 where
  pub message : Message
  pub said : m.said i ≡ Some message
  pub landed : m.flying i ≡ false
  pub of_volume : (m.brick b).config ≡ config
  pub so : NoneAlters m i → (has (m.brick b).asks i ≡ false) ⊎ HeldSo config first g b i gfid kind was m v

-- the one exclusive grant of a gfid
one_grant : (asks : List Asking) (n i : ℕ) (x y : Gfid) (kind : LockKind) → x.0 ≡ y.0 → holds asks n x Inode Exclusive ≡ true → holds asks i y Inode kind ≡ true → i ≡ n
one_grant asks n i x y kind e h k = laws.alone asks n i y Inode kind (subst (λ (z : ℕ). holds asks n (record { 0 = z }) Inode Exclusive ≡ true) e h) k

module _ (config : Config) (first : ℕ) (origins : ℕ → ℕ) (new : (h : ℕ) → first ≤ h → origins h ≡ 0) (g b : ℕ) (lt : b < config.geometry.n) (m : Net) (vs : ℕ → View) (t : Story) (books : Books) (e : Entry) (may : MayEnter config.geometry.n m e) (k : Reaches config.geometry first origins m vs t books) where
  changes : EntryChange m g e b ((m.brick b).records g) (((after m e).brick b).records g)
  changes = entry_change config.geometry.n g m (k.reached g).linked.to (unhealed config.geometry g m (vs g) books (k.reached g)) b e may

  module _ (i : ℕ) (gfid : Gfid) (kind : LockKind) (on : gfid.0 ≡ g) (was : Option Record) (h : Holding config first g b i gfid kind was m (vs g)) where
    -- what was said before alters nothing either
    none_before : NoneAlters (after m e) i → NoneAlters m i
    none_before none j msg q said body names = none j msg q (said_entry config.geometry.n m (k.reached g).linked.said e may j msg said) body names

    became_then : NoneAlters m i → HeldSo config first g b i gfid kind was m (vs g) → Became config was (((after m e).brick b).records g)
    became_then none so = at changes
      where
        same : (now : Option Record) → now ≡ (m.brick b).records g → Became config was now
        same now s = subst (Became config was) (sym s) so.became

        gone : (now : Option Record) → now ≡ None → Became config was now
        gone now s = subst (Became config was) (sym s) (became_none config was)

        born : (d : Does m e b) (now : Option Record) → IsBorn (m.brick b) g d.request d.done ((m.brick b).records g) now → Became config was now
        born d now s = of so.once
          where
            of : (was ≡ None) ⊎ Had first g (vs g) b → Became config was now
            of (inl none) = subst (λ (o : Option Record). Became config o now) (sym none) (subst (Became config None) (sym s.now_is) (subst (λ (z : Config). Became config None (Some (empty (new_head z s.child.kind)))) (sym h.of_volume) (s.child.kind, 1, refl)))
            of (inr had) = absurd (had_not config.geometry first origins new m vs t books k g e b d ((m.brick b).records g) now s had)

        grown : (now : Option Record) → IsGrown ((m.brick b).records g) now → Became config was now
        grown now s = subst (Became config was) (sym s.now_is) (became_grown config was s.before (subst (Became config was) s.was_is so.became))

        altered : (d : Does m e b) (now : Option Record) → IsAltered (m.brick b) g d.request ((m.brick b).records g) now → ⊥
        altered d now s =
            let one = one_grant (m.brick b).asks s.grant i s.gfid gfid kind (s.on ∙ sym on) s.stands so.stands in
            let never = none d.number d.message d.request d.said d.body (s.names ∙ ap (λ (z : ℕ). Some z) (sym one)) in
            let is = s.alters in cc

        by : (d : Does m e b) → Change (m.brick b) g d.request d.done ((m.brick b).records g) (((after m e).brick b).records g) → Became config was (((after m e).brick b).records g)
        by d (Same s) = same (((after m e).brick b).records g) s
        by d (Gone s) = gone (((after m e).brick b).records g) s
        by d (Born s) = born d (((after m e).brick b).records g) s
        by d (Grown s) = grown (((after m e).brick b).records g) s
        by d (Altered s) = absurd (altered d (((after m e).brick b).records g) s)

        at : EntryChange m g e b ((m.brick b).records g) (((after m e).brick b).records g) → Became config was (((after m e).brick b).records g)
        at (Unchanged s) = same (((after m e).brick b).records g) s
        at (Removed s) = gone (((after m e).brick b).records g) s
        at (Did d c) = by d c

    pub holding_entry : ((after m e).brick b).config ≡ (m.brick b).config → Holding config first g b i gfid kind was (after m e) (seen_after g m (vs g) e)
    holding_entry config_is = record {
      message = h.message;
      said = said_entry config.geometry.n m (k.reached g).linked.said e may i h.message h.said;
      landed = lands_entry config.geometry.n m (k.reached g).linked.said e may i h.message h.said h.landed;
      of_volume = config_is ∙ h.of_volume;
      so = λ none. at (none_before none) (h.so (none_before none));
    }
      where
        keeps : (has (m.brick b).asks i ≡ false → has ((after m e).brick b).asks i ≡ false) × ((x : Gfid) (d : Domain) (k : LockKind) → holds (m.brick b).asks i x d k ≡ true → IsGoneOrHeld ((after m e).brick b).asks i x d k)
        keeps = asks_entry config.geometry.n m (k.reached g).linked.said (k.reached g).linked.to (k.reached g).locks.asks e may b lt i h.message h.said h.landed

        at : NoneAlters m i → (has (m.brick b).asks i ≡ false) ⊎ HeldSo config first g b i gfid kind was m (vs g) → (has ((after m e).brick b).asks i ≡ false) ⊎ HeldSo config first g b i gfid kind was (after m e) (seen_after g m (vs g) e)
        at none (inl gone) = inl (keeps.0 gone)
        at none (inr so) = of (keeps.1 gfid Inode kind so.stands)
          where
            once : (was ≡ None) ⊎ Had first g (vs g) b → (was ≡ None) ⊎ Had first g (seen_after g m (vs g) e) b
            once (inl z) = inl z
            once (inr z) = inr (had_then first g m (vs g) e b z)

            of : IsGoneOrHeld ((after m e).brick b).asks i gfid Inode kind → (has ((after m e).brick b).asks i ≡ false) ⊎ HeldSo config first g b i gfid kind was (after m e) (seen_after g m (vs g) e)
            of (inl gone) = inl gone
            of (inr stands) = inr (record { stands = stands; became = became_then none so; once = once so.once })

  -- a record that comes is of a gfid that a call took
  pub absent_entry : ((m.brick b).records g ≡ None) ⊎ (first ≤ g) → (((after m e).brick b).records g ≡ None) ⊎ (first ≤ g)
  absent_entry (inr le) = inr le
  absent_entry (inl none) = at changes
    where
      by : (d : Does m e b) → Change (m.brick b) g d.request d.done ((m.brick b).records g) (((after m e).brick b).records g) → (((after m e).brick b).records g ≡ None) ⊎ (first ≤ g)
      by d (Same s) = inl (s ∙ none)
      by d (Gone s) = inl s
      by d (Born s) = inr (is_new config.geometry first origins new m vs t books k g e b d ((m.brick b).records g) (((after m e).brick b).records g) s)
      by d (Grown s) = absurd (some_none s.before (sym s.was_is ∙ none))
      by d (Altered s) = absurd (some_none s.before (sym s.was_is ∙ none))

      at : EntryChange m g e b ((m.brick b).records g) (((after m e).brick b).records g) → (((after m e).brick b).records g ≡ None) ⊎ (first ≤ g)
      at (Unchanged s) = inl (s ∙ none)
      at (Removed s) = inl s
      at (Did d c) = by d c

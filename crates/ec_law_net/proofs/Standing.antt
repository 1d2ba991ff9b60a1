-- What an entry at one brick makes of the machine: the brick's heads and grants again.
use Rattle.std.proofs.Common.{◌≡◌, ◌≢◌, ℕ, Bool, true, false, cond, ◌==◌, Option, Some, None, List, [], ◌++◌, refl, sym, ◌∙◌, subst, arith}
use Rattle.std.proofs.lemmas.Bool.Decides.{nat_tests}
use Rattle.std.specs.Option.{option_map}
use Rattle.ec_attr.specs.declared.head.Head.{Head}
use Rattle.ec_law_base.specs.State.{State}
use Rattle.ec_law_ballots.specs.Act.{Act, after}
use Rattle.ec_law_ballots.specs.Guard.{Runs}
use Rattle.ec_law_net.specs.Turns.{View}
use Rattle.ec_law_net.specs.Link.{IsHead}
use Rattle.ec_attr.specs.declared.kind.Domain.TheVariants.{Inode, Heal}
use Rattle.ec_locks.specs.declared.ask.Ask.{Ask as Asking}
use Rattle.ec_store.specs.Records.{head_at}
use Rattle.ec_brick.specs.State.{State as Brick}
use Rattle.ec_history.specs.Run.{Net, call_of}
use Rattle.ec_law_ballots.specs.Act.Act.{Free, Grant, Heal_free, Heal_grant}
use Rattle.ec_law_net.specs.Turns.{acts_changed, acts_locks, acts_maker, exclusive, freed, granted, has_directory}
use Rattle.ec_law_net.specs.Link.{GrantsReady, Linked}
use Rattle.ec_law_net.proofs.Changed.{ContentIs, HealIs, MakerIs, OwnGrants, after_both, content, heal, maker, own_after, runs_both, same_on}
use Rattle.ec_law_net.proofs.Worked.{Worked}

-- brick b is as the machine has it now, and all others are as the machine had them
pub record Stands (g : ℕ) (m : Net) (v : View) (b : ℕ) (t : State) (new : Brick) : Type 0 where
  pub head : IsHead (head_at new.records g) t b
  pub unmade : t.removed b ≡ new.removed g
  pub holds : t.holder b ≡ option_map v.of (exclusive g Inode new.asks)
  pub heals : t.healer b ≡ option_map (λ i. call_of (m.said i)) (exclusive g Heal new.asks)
  pub makes : t.maker b ≡ true → has_directory m.said v.maker new.asks ≡ true
  pub present : (c : ℕ) → c ≢ b → t.present c ≡ v.core.present c
  pub version : (c : ℕ) → c ≢ b → t.version c ≡ v.core.version c
  pub dirty : (c : ℕ) → c ≢ b → t.dirty c ≡ v.core.dirty c
  pub marked : (c : ℕ) → c ≢ b → t.marked c ≡ v.core.marked c
  pub removed : (c : ℕ) → c ≢ b → t.removed c ≡ v.core.removed c
  pub holder : (c : ℕ) → c ≢ b → t.holder c ≡ v.core.holder c
  pub healer : (c : ℕ) → c ≢ b → t.healer c ≡ v.core.healer c
  pub maker : (c : ℕ) → c ≢ b → t.maker c ≡ v.core.maker c
  pub carries : (x : ℕ) → t.carries x ≡ None
  pub shares : (x c : ℕ) → t.shares x c ≡ false
  pub reads : (x : ℕ) → t.reads x ≡ false

-- acts that may come, and what they leave
pub record Stepped (n k g : ℕ) (m : Net) (v : View) (b : ℕ) (acts : List Act) (new : Brick) : Type 0 where
  pub runs : Runs n k acts v.core
  pub stands : Stands g m v b (after acts v.core) new

pub own_grants : (n g : ℕ) (m : Net) (v : View) → Linked n g m v → OwnGrants v.core
own_grants n g m v l = record { carries = l.kept; shares = l.shared; reads = l.reading }

pub head_moves : (o : Option Head) (s t : State) (b : ℕ) → IsHead o s b → t.present b ≡ s.present b → t.version b ≡ s.version b → t.marked b ≡ s.marked b → t.dirty b ≡ s.dirty b → IsHead o t b
head_moves None s t b h p v w d = p ∙ h
head_moves (Some x) s t b h p v w d = (p ∙ h.0, v ∙ h.1, w ∙ h.2, d ∙ h.3)

no_change : (free : Act) (grant : ℕ → Act) (o : Option ℕ) → acts_changed free grant o o ≡ []
no_change free grant None = refl
no_change free grant (Some i) = if_same (i == i) (grind (arith, nat_tests))
  where
    if_same : (t : Bool) → t ≡ true → cond t [] (freed free (Some i) ++ granted grant (Some i)) ≡ []
    if_same true e = refl
    if_same false e = absurd (cc)

no_maker : (s : State) (b : ℕ) (t : Bool) → acts_maker s b t t ≡ []
no_maker s b true = refl
no_maker s b false = refl

-- the same asks are no act
pub no_locks : (g : ℕ) (m : Net) (v : View) (b : ℕ) (asks : List Asking) → acts_locks g m v b asks asks ≡ []
no_locks g m v b asks = rw (no_change (Heal_free b) (λ i. Heal_grant (call_of (m.said i)) b) (exclusive g Heal asks), no_change (Free b) (λ i. Grant (v.of i) b) (exclusive g Inode asks), no_maker v.core b (has_directory m.said v.maker asks)) refl

-- the three parts of what becomes of locks
module _ (g : ℕ) (m : Net) (v : View) (b : ℕ) (old new : List Asking) where
  abbrev one : List Act
  one = acts_changed (Heal_free b) (λ i. Heal_grant (call_of (m.said i)) b) (exclusive g Heal old) (exclusive g Heal new)

  abbrev two : List Act
  two = acts_changed (Free b) (λ i. Grant (v.of i) b) (exclusive g Inode old) (exclusive g Inode new)

  abbrev three : List Act
  three = acts_maker v.core b (has_directory m.said v.maker old) (has_directory m.said v.maker new)

module _ (n k g : ℕ) (m : Net) (v : View) (b : ℕ) (is : IsHead (head_at (m.brick b).records g) v.core b) (gone : v.core.removed b ≡ (m.brick b).removed g) (holder : v.core.holder b ≡ option_map v.of (exclusive g Inode (m.brick b).asks)) (healer : v.core.healer b ≡ option_map (λ i. call_of (m.said i)) (exclusive g Heal (m.brick b).asks)) (making : v.core.maker b ≡ true → has_directory m.said v.maker (m.brick b).asks ≡ true) (own : OwnGrants v.core) where
  healed : (new : List Asking) → GrantsReady g m v b (m.brick b).asks new → HealIs n k (one g m v b (m.brick b).asks new) v.core b (option_map (λ i. call_of (m.said i)) (exclusive g Heal new))
  healed new ready = heal n k v.core b (λ i. call_of (m.said i)) (exclusive g Heal (m.brick b).asks) (exclusive g Heal new) healer ready.heal

  passed : (new : List Asking) → GrantsReady g m v b (m.brick b).asks new → ContentIs n k (two g m v b (m.brick b).asks new) (after (one g m v b (m.brick b).asks new) v.core) b (option_map v.of (exclusive g Inode new))
  passed new ready =
      let h = healed new ready in
      content n k (after (one g m v b (m.brick b).asks new) v.core) b v.of (own_after h.same own) (exclusive g Inode (m.brick b).asks) (exclusive g Inode new) (h.holder b ∙ holder) (λ i e ne. let r = ready.content i e ne in (h.granted (v.of i) b ∙ r.0, h.old (v.of i) ∙ r.1))

  makes : (new : List Asking) → GrantsReady g m v b (m.brick b).asks new → MakerIs n k (three g m v b (m.brick b).asks new) (after (two g m v b (m.brick b).asks new) (after (one g m v b (m.brick b).asks new) v.core)) b (has_directory m.said v.maker new)
  makes new ready =
      let h = healed new ready in
      let c = passed new ready in
      maker n k v.core (after (two g m v b (m.brick b).asks new) (after (one g m v b (m.brick b).asks new) v.core)) b (has_directory m.said v.maker (m.brick b).asks) (has_directory m.said v.maker new) (c.same.making ∙ h.same.making) (λ e. making (sym (h.maker b) ∙ (sym (c.maker b) ∙ e)))

  -- where asks come and go, and no record changes
  pub stepped_locks : (new : Brick) → head_at new.records g ≡ head_at (m.brick b).records g → new.removed g ≡ (m.brick b).removed g → GrantsReady g m v b (m.brick b).asks new.asks → Stepped n k g m v b (acts_locks g m v b (m.brick b).asks new.asks) new
  stepped_locks new f u ready =
      let h = healed new.asks ready in
      let c = passed new.asks ready in
      let w = makes new.asks ready in
      let p = one g m v b (m.brick b).asks new.asks in
      let q = two g m v b (m.brick b).asks new.asks in
      let r = three g m v b (m.brick b).asks new.asks in
      let all = same_on (same_on h.same c.same) w.same in
      record {
        runs = runs_both n k p (q ++ r) v.core h.runs (runs_both n k q r (after p v.core) c.runs w.runs);
        stands = subst (λ (t : State). Stands g m v b t new) (sym (after_both p (q ++ r) v.core ∙ after_both q r (after p v.core))) (record {
          head = subst (λ (z : Option Head). IsHead z (after r (after q (after p v.core))) b) (sym f) (head_moves (head_at (m.brick b).records g) v.core (after r (after q (after p v.core))) b is (all.present b) (all.version b) (all.marked b) (all.dirty b));
          unmade = all.removed b ∙ (gone ∙ sym u);
          holds = w.holder b ∙ (c.holder b ∙ here b (after p v.core) (option_map v.of (exclusive g Inode new.asks)) ((after p v.core).holder b));
          heals = w.healer b ∙ (c.healer b ∙ (h.healer b ∙ here b v.core (option_map (λ i. call_of (m.said i)) (exclusive g Heal new.asks)) (v.core.healer b)));
          makes = w.here;
          present = λ x ne. all.present x;
          version = λ x ne. all.version x;
          dirty = λ x ne. all.dirty x;
          marked = λ x ne. all.marked x;
          removed = λ x ne. all.removed x;
          holder = λ x ne. w.holder x ∙ (c.holder x ∙ (there b x ne (option_map v.of (exclusive g Inode new.asks)) ((after p v.core).holder x) ∙ h.holder x));
          healer = λ x ne. w.healer x ∙ (c.healer x ∙ (h.healer x ∙ there b x ne (option_map (λ i. call_of (m.said i)) (exclusive g Heal new.asks)) (v.core.healer x)));
          maker = λ x ne. w.others x ne ∙ (c.maker x ∙ h.maker x);
          carries = λ x. all.carries x ∙ own.carries x;
          shares = λ x c. all.shares x c ∙ own.shares x c;
          reads = λ x. all.reads x ∙ own.reads x;
        });
      }
    where
      here : (b : ℕ) (s : State) (o p : Option ℕ) → cond (b == b) o p ≡ o
      here b s o p = grind (arith, nat_tests)

      there : (b c : ℕ) → c ≢ b → (o p : Option ℕ) → cond (c == b) o p ≡ p
      there b c ne o p = grind (arith, nat_tests)

  -- where a record changes, and the asks stay
  pub stepped_work : (acts : List Act) (new : Brick) → Worked n k g b acts v.core (m.brick b) new → Stepped n k g m v b (acts ++ acts_locks g m v b (m.brick b).asks new.asks) new
  stepped_work acts new w = subst (λ (asks : List Asking). Stepped n k g m v b (acts ++ acts_locks g m v b (m.brick b).asks asks) new) (sym w.asks) (subst (λ (more : List Act). Stepped n k g m v b (acts ++ more) new) (sym (no_locks g m v b (m.brick b).asks)) (record {
    runs = runs_both n k acts [] v.core w.runs refl;
    stands = subst (λ (t : State). Stands g m v b t new) (sym (after_both acts [] v.core)) (record {
      head = w.head;
      unmade = w.unmade;
      holds = w.holder b ∙ subst (λ (asks : List Asking). v.core.holder b ≡ option_map v.of (exclusive g Inode asks)) (sym w.asks) holder;
      heals = w.healer b ∙ subst (λ (asks : List Asking). v.core.healer b ≡ option_map (λ i. call_of (m.said i)) (exclusive g Heal asks)) (sym w.asks) healer;
      makes = λ e. subst (λ (asks : List Asking). has_directory m.said v.maker asks ≡ true) (sym w.asks) (making (sym (w.maker b) ∙ e));
      present = w.present;
      version = w.version;
      dirty = w.dirty;
      marked = w.marked;
      removed = w.removed;
      holder = λ x ne. w.holder x;
      healer = λ x ne. w.healer x;
      maker = λ x ne. w.maker x;
      carries = λ x. w.carries x ∙ own.carries x;
      shares = λ x c. w.shares x c ∙ own.shares x c;
      reads = λ x. w.reads x ∙ own.reads x;
    });
  }))

-- The laws of records and grants at each moment of the log of a world.
use Rattle.std.proofs.Common.{◌≡◌, ◌⊎◌, ℕ, ◌<◌, ◌≤◌, false, Option, Some, None, List, [], ◌∷◌, ◌++◌, refl, sym, ◌∙◌, ap, subst, inl, inr}
use Rattle.std.proofs.lemmas.List.{append-nil}
use Rattle.ec_attr.specs.declared.config.Config.{Config}
use Rattle.ec_attr.specs.declared.kind.Domain.TheVariants.{Inode}
use Rattle.ec_brick.specs.State.{State as Brick}
use Rattle.ec_calls.specs.declared.any.AnyCall.{AnyCall}
use Rattle.ec_conduct.specs.Given.{Given}
use Rattle.ec_conduct.specs.Own.{Own}
use Rattle.ec_history.specs.Flat.{Tree}
use Rattle.ec_history.specs.Run.{Net, fresh, run}
use Rattle.ec_history.specs.Starts.{IsStart}
use Rattle.ec_history.specs.Story.{Story, opening, story}
use Rattle.ec_locks.specs.Table.{has}
use Rattle.ec_store.specs.Records.{Record, Records}
use Rattle.ec_txn.specs.declared.ctx.Ctx.{Ctx}
use Rattle.ec_wire.specs.declared.entry.Entry.{Entry}
use Rattle.ec_wire.specs.declared.message.Message.{Message}
use Rattle.ec_law_calls.specs.World.{IsInOrder, WorldLaws}
use Rattle.ec_law_net.specs.Turns.{View}
use Rattle.ec_law_turns.proofs.Basics.{some_is, some_none}
use Rattle.ec_law_turns.proofs.Origins.{unrecorded, unversioned}
use Rattle.ec_law_grants.specs.Became.{Became}
use Rattle.ec_law_grants.specs.Laws.{MadeIsNew, NoneAlters, PostedIsNotNew, StaysWhileHeld, VersionIsCommitted, WorldGrantLaws, record_after}
use Rattle.ec_law_grants.proofs.Granted.{grants_start}
use Rattle.ec_law_grants.proofs.Held.{HeldSo, Holding, absent_entry, became_same, holding_entry}
use Rattle.ec_law_grants.proofs.Making.{Had}
use Rattle.ec_law_grants.proofs.Standing.{Stands, stands_entry}
use Rattle.ec_law_grants.proofs.Tables.{IsGoneOrHeld, held_has}
use Rattle.ec_law_grants.proofs.Volumes.{entry_config}
use Rattle.ec_law_grants.proofs.Walking.{At, GoesOn, at_start, onto, walk}

-- what stands after every log in order
pub record Base (config : Config) (first origin g : ℕ) (m : Net) (v : View) (t : Story) : Type 0 where
  pub stands : Stands config.geometry first origin g m v t
  pub of_volume : (b : ℕ) → b < config.geometry.n → (m.brick b).config ≡ config

run_append : (xs ys : List Entry) (m : Net) → run (xs ++ ys) m ≡ run ys (run xs m)
run_append [] ys m = refl
run_append (e ∷ xs) ys m = run_append xs ys _

module _ (config : Config) (records : ℕ → Records) (bricks : ℕ → Brick) (tree : Tree) (next g : ℕ) (es : List Entry) (start : IsStart config records bricks tree next) (o : IsInOrder config bricks tree next es) where
  abbrev Standing : Net → (ℕ → View) → Story → Type 0
  Standing m vs t = Base config next (tree g).version g m (vs g) t

  abbrev Moment : List Entry → Net → Story → (Net → (ℕ → View) → Story → Type 0) → Type 0
  Moment later m t law = At config.geometry o.orderly.left o.orderly.none_kept next (λ h. (tree h).version) (λ h le. unversioned config records bricks tree next h start le) later m t law

  abbrev Goes : (Net → (ℕ → View) → Story → Type 0) → Type 0
  Goes law = GoesOn config.geometry o.orderly.left o.orderly.none_kept next (λ h. (tree h).version) (λ h le. unversioned config records bricks tree next h start le) law

  base_goes : Goes Standing
  base_goes m vs t b e may k h = record {
    stands = stands_entry config.geometry next (λ h. (tree h).version) (λ h le. unversioned config records bricks tree next h start le) (tree g).version g m vs t b e may k h.stands;
    of_volume = λ c lt. entry_config m c e ∙ h.of_volume c lt;
  }

  walks : (law : Net → (ℕ → View) → Story → Type 0) → Goes law → (front later : List Entry) (m : Net) (t : Story) → Moment (front ++ later) m t law → Moment later (run front m) (story config.geometry front m t) law
  walks law goes = walk config.geometry o.orderly.left o.orderly.none_kept next (λ h. (tree h).version) (λ h le. unversioned config records bricks tree next h start le) law goes

  to_end : (law : Net → (ℕ → View) → Story → Type 0) → Goes law → (later : List Entry) (m : Net) (t : Story) → Moment later m t law → Moment [] (run later m) (story config.geometry later m t) law
  to_end law goes later m t a = walks law goes later [] m t (subst (λ (xs : List Entry). Moment xs m t law) (sym (append-nil later)) a)

  begins : Moment es (fresh bricks) (opening tree next) Standing
  begins = at_start Standing config records bricks tree next es start o (record {
    stands = record {
      grants = grants_start (fresh bricks) refl (λ i. refl) (λ i. refl);
      had = λ b r lt is. inr (start.next_gfid.above b g lt (inl (λ z. some_none r (sym is ∙ (ap (λ (m : Records). m g) (start.opened b lt).kept ∙ z)))));
      posted = λ a b lt e. absurd (cc);
      committed = λ ne. absurd (ne refl);
    };
    of_volume = λ b lt. (start.opened b lt).of_volume;
  })

  -- at each moment, with the entries that come
  front_of : (front later : List Entry) → es ≡ front ++ later → Moment later (run front (fresh bricks)) (story config.geometry front (fresh bricks) (opening tree next)) Standing
  front_of front later e = walks Standing base_goes front later (fresh bricks) (opening tree next) (subst (λ (xs : List Entry). Moment xs (fresh bricks) (opening tree next) Standing) e begins)

  ends : Moment [] (run es (fresh bricks)) (story config.geometry es (fresh bricks) (opening tree next)) Standing
  ends = to_end Standing base_goes es (fresh bricks) (opening tree next) begins

  posted : PostedIsNotNew config records bricks tree next g es
  posted a b r lt p is = (ends.holds.stands.posted a b lt p).1 r is

  committed : VersionIsCommitted config records bricks tree next g es
  committed ne = let c = ends.holds.stands.committed ne in record { call = c.call; enough = c.enough }

  made : MadeIsNew config records bricks tree next g es
  made mo later e b r lt none some = start.elsewhere g (unrecorded config records bricks tree next g start (is_new end.holds))
    where
      law : Net → (ℕ → View) → Story → Type 0
      law m vs t = ((m.brick b).records g ≡ None) ⊎ (next ≤ g)

      goes : Goes (λ m vs t. ((m.brick b).records g ≡ None) ⊎ (next ≤ g))
      goes m vs t own x may k h = absent_entry config next (λ h. (tree h).version) (λ h le. unversioned config records bricks tree next h start le) g b lt m vs t own x may k h

      now : Net
      now = run mo (fresh bricks)

      so_far : Story
      so_far = story config.geometry mo (fresh bricks) (opening tree next)

      end : Moment [] (run later (run mo (fresh bricks))) (story config.geometry later (run mo (fresh bricks)) (story config.geometry mo (fresh bricks) (opening tree next))) (λ m vs t. ((m.brick b).records g ≡ None) ⊎ (next ≤ g))
      end = to_end (λ m vs t. ((m.brick b).records g ≡ None) ⊎ (next ≤ g)) goes later now so_far (onto config.geometry o.orderly.left o.orderly.none_kept next (λ h. (tree h).version) (λ h le. unversioned config records bricks tree next h start le) Standing (λ m vs t. ((m.brick b).records g ≡ None) ⊎ (next ≤ g)) later now so_far (front_of mo later e) (λ vs h. inl none))

      at_end : record_after es bricks g b ≡ ((run later (run mo (fresh bricks))).brick b).records g
      at_end = ap (λ (xs : List Entry). ((run xs (fresh bricks)).brick b).records g) e ∙ ap (λ (m : Net). (m.brick b).records g) (run_append mo later (fresh bricks))

      is_new : (((run later (run mo (fresh bricks))).brick b).records g ≡ None) ⊎ (next ≤ g) → next ≤ g
      is_new (inl z) = absurd (some_none r (sym some ∙ (at_end ∙ z)))
      is_new (inr le) = le

  stays : StaysWhileHeld config records bricks tree next g es
  stays mo later e a b i gfid kind on lt heard stand none = at (end.holds.so (subst (λ (m : Net). NoneAlters m i) end_is none))
    where
      was : Option Record
      was = record_after mo bricks g b

      now : Net
      now = run mo (fresh bricks)

      so_far : Story
      so_far = story config.geometry mo (fresh bricks) (opening tree next)

      goes : Goes (λ m vs t. Holding config next g b i gfid kind (record_after mo bricks g b) m (vs g))
      goes m vs t own x may k h = holding_entry config next (λ h. (tree h).version) (λ h le. unversioned config records bricks tree next h start le) g b lt m vs t own x may k i gfid kind on (record_after mo bricks g b) h (entry_config m b x)

      at_mo : (vs : ℕ → View) → Standing (run mo (fresh bricks)) vs (story config.geometry mo (fresh bricks) (opening tree next)) → Holding config next g b i gfid kind (record_after mo bricks g b) (run mo (fresh bricks)) (vs g)
      at_mo vs h = record {
        message = heard.message;
        said = heard.said;
        landed = told.0;
        of_volume = h.of_volume b lt;
        so = λ n. of told.1;
      }
        where
          told : ((run mo (fresh bricks)).flying i ≡ false) × IsGoneOrHeld ((run mo (fresh bricks)).brick b).asks i gfid Inode kind
          told =
              let s = h.stands.grants.heard i heard.heard in
              let same = some_is s.message heard.message (sym s.is ∙ heard.said) in
              let o = s.stands gfid Inode kind (ap (λ (x : Message). x.body) same ∙ heard.asks) in
              (o.0, subst (λ (y : ℕ). IsGoneOrHeld ((run mo (fresh bricks)).brick y).asks i gfid Inode kind) (ap (λ (x : Message). x.brick) same ∙ heard.of_brick) o.1)

          once : (r : Option Record) → record_after mo bricks g b ≡ r → (record_after mo bricks g b ≡ None) ⊎ Had next g (vs g) b
          once None is = inl is
          once (Some r) is = inr (h.stands.had b r lt is)

          of : IsGoneOrHeld ((run mo (fresh bricks)).brick b).asks i gfid Inode kind → (has ((run mo (fresh bricks)).brick b).asks i ≡ false) ⊎ HeldSo config next g b i gfid kind (record_after mo bricks g b) (run mo (fresh bricks)) (vs g)
          of (inl gone) = inl gone
          of (inr stands) = inr (record { stands = stands; became = became_same config (record_after mo bricks g b); once = once (record_after mo bricks g b) refl })

      end : Moment [] (run later (run mo (fresh bricks))) (story config.geometry later (run mo (fresh bricks)) (story config.geometry mo (fresh bricks) (opening tree next))) (λ m vs t. Holding config next g b i gfid kind (record_after mo bricks g b) m (vs g))
      end = to_end (λ m vs t. Holding config next g b i gfid kind (record_after mo bricks g b) m (vs g)) goes later now so_far (onto config.geometry o.orderly.left o.orderly.none_kept next (λ h. (tree h).version) (λ h le. unversioned config records bricks tree next h start le) Standing (λ m vs t. Holding config next g b i gfid kind (record_after mo bricks g b) m (vs g)) later now so_far (front_of mo later e) at_mo)

      end_is : run es (fresh bricks) ≡ run later (run mo (fresh bricks))
      end_is = ap (λ (xs : List Entry). run xs (fresh bricks)) e ∙ run_append mo later (fresh bricks)

      at : (has ((run later (run mo (fresh bricks))).brick b).asks i ≡ false) ⊎ HeldSo config next g b i gfid kind (record_after mo bricks g b) (run later (run mo (fresh bricks))) (end.views g) → Became config (record_after mo bricks g b) (record_after es bricks g b)
      at (inl gone) = absurd (let h = held_has ((run es (fresh bricks)).brick b).asks i gfid Inode kind stand in let z = ap (λ (m : Net). has (m.brick b).asks i) end_is ∙ gone in cc)
      at (inr so) = subst (λ (m : Net). Became config (record_after mo bricks g b) ((m.brick b).records g)) (sym end_is) so.became

module _ (stands : Ctx → Given → AnyCall → List Own → Type 0) (by_table : Ctx → Given → List Own → Type 0) (laws : WorldLaws stands by_table) where
  pub grant_laws : WorldGrantLaws stands by_table
  grant_laws = record {
    stays = λ config records bricks tree next g s c start logged es rest parts. stays config records bricks tree next g es start (laws.in_order config bricks tree next s c logged es rest parts);
    posted = λ config records bricks tree next g s c start logged es rest parts. posted config records bricks tree next g es start (laws.in_order config bricks tree next s c logged es rest parts);
    committed = λ config records bricks tree next g s c start logged es rest parts. committed config records bricks tree next g es start (laws.in_order config bricks tree next s c logged es rest parts);
    made = λ config records bricks tree next g s c start logged es rest parts. made config records bricks tree next g es start (laws.in_order config bricks tree next s c logged es rest parts);
  }

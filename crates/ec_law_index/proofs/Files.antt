-- The law of the index over files and directories.
use Rattle.std.proofs.Common.{◌≡◌, ℕ, ◌+◌, ◌<◌, ◌≤◌, Bool, true, false, nat_lt, List, [], ◌∷◌, refl, sym, ◌∙◌, subst, arith, ⊎_elim}
use Rattle.std.proofs.lemmas.Bool.Decides.{nat_tests}
use Rattle.ec_attr.specs.Bricks.{count_below}
use Rattle.ec_attr.proofs.Sets.{part}
use Rattle.ec_law_base.specs.State.{State, Head}
use Rattle.ec_law_ballots.specs.Words.{head}
use Rattle.ec_law_ballots.specs.Act.{Act, step as act_step}
use Rattle.ec_law_ballots.specs.Act.Act.{See, Choose, Choose_kept, Post, Sink_post, Mark, Unmark, Make}
use Rattle.ec_law_ballots.specs.Begin.{is_plain}
use Rattle.ec_law_ballots.specs.Guard.{May}
use Rattle.ec_law_quorum.specs.Wide.{Inv}
use Rattle.ec_law_quorum.proofs.Quorums.{either}
use Rattle.ec_law_pieces.specs.File.{Form, Flat, File}
use Rattle.ec_law_pieces.specs.Deed.{Deed, MayDo, Runs, after, step}
use Rattle.ec_law_pieces.specs.Deed.Deed.{Do, Look, Take, Take_kept, Read, Intend, Write, Tear, Copy, Spoil, Commit, Follow, Begin, Finish, Create}
use Rattle.ec_law_pieces.specs.Laws.{Stands, start, first_heads}
use Rattle.ec_law_pieces.proofs.Runs.{Both, both_step}
use Rattle.ec_law_pieces.proofs.Laws.{both, alike}
use Rattle.ec_law_index.specs.Index.{InIndex, Keeps}
use Rattle.ec_law_index.specs.Clauses.{Index}
use Rattle.ec_law_index.specs.Files.{KeepsDeed, KeepsDeeds, FlatInIndex, FileIndexLaws}
use Rattle.ec_law_index.proofs.Acts.{moves}
use Rattle.ec_law_index.proofs.Moves.{index_next}
use Rattle.ec_law_index.proofs.Laws.{in_index_now, index_begin}

first_is : (n : ℕ) (s : State) (b : ℕ) → b < n → first_heads n s b ≡ head s b
first_is n s b lt = pick (nat_lt b n) refl
  where
    pick : (u : Bool) → nat_lt b n ≡ u → first_heads n s b ≡ head s b
    pick true q = rw q refl
    pick false q = absurd (grind (arith, nat_tests))

module _ {P V C U S : Type 0} (form : Form P V C U S) (n k : ℕ) (most : n < k + k) (fits : k ≤ n) where
  abbrev Next : State → State → Type 0
  Next s t = Index n k t × (t.began ≡ s.began)

  by_act : (s : State) (e : Act) → May n k s e → Keeps n s e → Inv n k s → Index n k s → Next s (act_step s e)
  by_act s e may keep i x = let m = moves n k most fits s i x e may keep in (index_next n k s (act_step s e) i m fits (omega arith) x, m.began)

  by_deed : (f : File P V C U S) (e : Deed P V C U S) → MayDo form n k f e → KeepsDeed n f e → Inv n k f.heads → Index n k f.heads → Next f.heads (step form n k f e).heads
  by_deed f (Do e) m keep i x = by_act f.heads e m.0 keep i x
  by_deed f (Look y d) m keep i x = by_act f.heads (See y d) m refl i x
  by_deed f (Take y q shape) m keep i x = by_act f.heads (Choose y q) m.0 refl i x
  by_deed f (Take_kept y u q) m keep i x = by_act f.heads (Choose_kept y u q) m refl i x
  by_deed f (Read y d places) m keep i x = (x, refl)
  by_deed f (Intend y plan) m keep i x = (x, refl)
  by_deed f (Write y d places) m keep i x = (x, refl)
  by_deed f (Tear y d places pieces) m keep i x = (x, refl)
  by_deed f (Copy y d places pieces) m keep i x = (x, refl)
  by_deed f (Spoil d places pieces) m keep i x = (x, refl)
  by_deed f (Commit y d) m keep i x = by_act f.heads (Post y d) m.0 refl i x
  by_deed f (Follow y d) m keep i x = by_act f.heads (Sink_post y d) m.0 refl i x
  by_deed f (Begin y d) m keep i x = by_act f.heads (Mark y d) m.0 refl i x
  by_deed f (Finish y d) m keep i x = by_act f.heads (Unmark y d) m.0 refl i x
  by_deed f (Create d shape) m keep i x = by_act f.heads (Make d) m.0 refl i x

  in_index_after : (es : List (Deed P V C U S)) (f : File P V C U S) → Runs form n k es f → KeepsDeeds form n k es f → Both form n k f → Index n k f.heads → InIndex n k f.heads.began → InIndex n k (head (after form n k es f).heads)
  in_index_after [] f r keep b x first = in_index_now n k most fits f.heads b.inv x first
  in_index_after (e ∷ es) f r keep b x first = let next = by_deed f e r.0 keep.0 b.inv x in in_index_after es (step form n k f e) r.1 keep.1 (both_step form n k most fits f e r.0 b) next.0 (rw next.1 first)

  module _ (flat : Flat P U S) (heads : ℕ → Head) (fresh : Bool) (call : ℕ → ℕ) (shape : ℕ → S) (piece : ℕ → P → C) (st : Stands form n k flat heads fresh shape piece) (met : FlatInIndex n k flat.version heads) (deeds : List (Deed P V C U S)) where
    abbrev first : File P V C U S
    first = start form n flat heads fresh call shape piece st.value

    abbrev last : File P V C U S
    last = after form n k deeds first

    as_it_began : InIndex n k heads
    as_it_began v members b here out = ⊎_elim (λ e. met v members b here (subst (λ (w : ℕ). is_plain w (heads b) ≡ false) e out)) (λ ne. absurd (let few = st.standing.few_alike v ne in omega (arith, members))) (either v flat.version)

    plain_first : (v c : ℕ) → c < n → is_plain v (first_heads n last.heads c) ≡ is_plain v (head last.heads c)
    plain_first v c lt = rw (first_is n last.heads c lt) refl

    in_index : Runs form n k deeds first → KeepsDeeds form n k deeds first → FlatInIndex n k last.flat.version (first_heads n last.heads)
    in_index r keep v members b here out =
        let as_heads = part n (λ c. is_plain v (first_heads n last.heads c)) (λ c. is_plain v (head last.heads c)) (λ c lt e. sym (plain_first v c lt) ∙ e) in
        let group : k ≤ count_below n (λ c. is_plain v (head last.heads c)) = omega (arith, members) in
        let is = (alike form n k most fits flat heads fresh call shape piece st deeds r v group).0 in
        let began = both form n k most fits flat heads fresh call shape piece st [] refl in
        let all = in_index_after deeds first r keep began (index_begin n k most fits flat.version heads fresh call st.standing) as_it_began in
        let c = all v group b here (subst (λ (w : ℕ). is_plain w (head last.heads b) ≡ false) (sym is) (sym (plain_first last.flat.version b here) ∙ out)) in
        (c.0, c.1, plain_first v c.0 c.1 ∙ c.2, rw (first_is n last.heads c.0 c.1) c.3)

pub laws : {P V C U S : Type 0} (form : Form P V C U S) → FileIndexLaws form
laws form = record { in_index = λ n k most fits flat heads fresh call shape piece st met deeds r keep. in_index form n k most fits flat heads fresh call shape piece st met deeds r keep }

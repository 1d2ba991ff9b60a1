-- What a truncate puts: the stripe of the lesser size, and then the cut, are of the call's own stripes.
use Rattle.std.proofs.Common.{◌≡◌, inl, inr, ℕ, ◌%◌, ◌<◌, ◌==◌, Bool, true, false, cond, refl, sym, ◌∙◌, ap, subst, arith, List, [], Some}
use Rattle.std.specs.Prelude.{nat_le, nat_lt, ◌^◌}
use Rattle.ec_answers.specs.declared.grouped.Group.{Group}
use Rattle.ec_attr.specs.declared.head.Head.{Head}
use Rattle.ec_attr.specs.declared.kind.LockKind.TheVariants.{Exclusive}
use Rattle.ec_conduct.specs.Account.{Account, Dealings, at}
use Rattle.ec_conduct.specs.Changes.{are, stripes_of}
use Rattle.ec_conduct.specs.Done.{is_query, reply_to}
use Rattle.ec_conduct.specs.Given.{Given, bricks_of, quorum_of}
use Rattle.ec_conduct.specs.Standing.{changes_at, head_of as told_head}
use Rattle.ec_stripe.specs.Span.{stripe_bytes}
use Rattle.ec_txn.specs.Ballot.{count_serving}
use Rattle.ec_txn.specs.ReadPhase.{reading_asks}
use Rattle.ec_txn.specs.Rounds.{Asks, subject}
use Rattle.ec_txn.specs.declared.ballot.Ballot.TheVariants.{Pre, Post, Clear}
use Rattle.ec_txn.specs.declared.ctx.Ctx.{Ctx}
use Rattle.ec_txn.specs.declared.opening.Opening.TheVariants.{Lock as Locking}
use Rattle.ec_txn.specs.declared.stage.Next.{Next}
use Rattle.ec_txn.specs.declared.stage.Next.TheVariants.{Go, Say}
use Rattle.ec_txn.proofs.Ballots.{group_stays}
use Rattle.ec_wire.specs.declared.answer.Answer.{Answer}
use Rattle.ec_wire.specs.declared.op.Op.{Op}
use Rattle.ec_wire.specs.declared.phase.Phase.TheVariants.{Trim as TrimPhase, Write as WritePhase}
use Rattle.ec_wire.specs.declared.request.Request.{Request}
use Rattle.ec_write.specs.Cuttings.{of_truncate, tail_one, truncate_fills}
use Rattle.ec_write.specs.DuringTruncate.{DuringTruncate, IsCutting, is_border, tail_tests}
use Rattle.ec_write.specs.Range.{count_stripes, first_stripe}
use Rattle.ec_write.specs.Truncate.{IsTruncate, low_of, says_to, to_of, truncate_table}
use Rattle.ec_write.specs.TruncateSound.{truncate_sound}
use Rattle.ec_write.specs.Writings.{wide}
use Rattle.ec_write.specs.declared.stage.TruncateStage.{TruncateStage}
use Rattle.ec_write.specs.declared.stage.TruncateStage.TheVariants as cuts
use Rattle.ec_law_calls.proofs.Asking.{go_is, go_say, go_when, if_quorum, where_is}
use Rattle.ec_law_files.specs.Stripes.{CutsStripes, IsOwn, Making, WritesStripes, WroteTail}
use Rattle.ec_law_files.proofs.Coded.{making}
use Rattle.ec_law_files.proofs.Quiet.{clear_untold, opening_untold, posts_told, pre_untold, reading_untold}
use Rattle.ec_law_files.proofs.Sent.{IsSo, is_told, untold}
use Rattle.ec_law_files.proofs.Stages.{Asked, IsFree, MakesStripes}
use Rattle.ec_law_files.proofs.Writes.{LateBallot, early_ballot, nothing_made, written}

tail_range : (v : Given) (group : Group) (n : ℕ) → IsTruncate v.op → is_border v group ≡ false → n ≡ count_stripes (quorum_of v) (low_of v.op group) 0 → WritesStripes v.op (quorum_of v) group.head.size (first_stripe (quorum_of v) (low_of v.op group)) n
tail_range v group n is inside e =
    let pos : 0 < stripe_bytes (quorum_of v) = (let z = wide v in omega (arith, z)) in
    of_truncate (λ (o : Op). ((low_of o group % stripe_bytes (quorum_of v)) == 0) ≡ false → n ≡ 1 → WritesStripes o (quorum_of v) group.head.size (first_stripe (quorum_of v) (low_of o group)) n) v.op is
    (λ g to inside one. (inside, refl, one)) inside (e ∙ tail_one (quorum_of v) (low_of v.op group) pos inside)

cut_range : (v : Given) (group : Group) → IsTruncate v.op → CutsStripes v.op (quorum_of v) group.head.size (stripes_of (quorum_of v) (low_of v.op group)) (stripes_of (quorum_of v) (to_of v.op))
cut_range v group is = of_truncate (λ (o : Op). CutsStripes o (quorum_of v) group.head.size (stripes_of (quorum_of v) (low_of o group)) (stripes_of (quorum_of v) (to_of o))) v.op is (λ g to. (refl, refl))

cut_tail : (v : Given) (group : Group) (rs : List Request) → IsTruncate v.op → are (tail_tests (quorum_of v) (low_of v.op group)) rs ≡ true → WroteTail v.op (quorum_of v) group.head.size rs
cut_tail v group rs is e = of_truncate (λ (o : Op). are (tail_tests (quorum_of v) (low_of o group)) rs ≡ true → WroteTail o (quorum_of v) group.head.size rs) v.op is (λ g to t. t) e

-- ## The stage that cuts

module _ (w : Making) (group : Group) (f : Asks) (d : Account) (is : IsTruncate d.given.op) (l : IsCutting d.given d group f) (head : group.head ≡ w.head) where
  cut : (y : ℕ) (r : Request) → f y ≡ Some r → (is_told r ≡ true) × IsSo (IsOwn w) d y r
  cut y r e =
      let a = l.changing.asks y r e in
      let g : ℕ = subject d.given.op in
      let keep : ℕ = stripes_of (quorum_of d.given) (low_of d.given.op group) in
      let count : ℕ = stripes_of (quorum_of d.given) (to_of d.given.op) in
      let before = l.changed y a.1 a.2 a.0 a.3 a.4 in
      let tail : WroteTail d.given.op (quorum_of d.given) group.head.size (changes_at (at d (subject d.given.op) y)) = cut_tail d.given group (changes_at (at d (subject d.given.op) y)) is (subst (λ (rs : List Request). are (tail_tests (quorum_of d.given) (low_of d.given.op group)) rs ≡ true) (sym before.2.sent) before.1) in (
        ap is_told a.5,
        λ c on given. subst (IsOwn w c y) (sym a.5) (record {
          on = ap (λ (v : Given). subject v.op) (sym given);
          group = (group_stays d c (subject d.given.op) group given (λ z. ap (λ (h : ℕ → Dealings). told_head (reply_to is_query ((h (subject d.given.op)).place z).window)) on) l.group_is).head ∙ ap (λ (h : Head). Some h) head;
          range = subst (λ (h : Head). CutsStripes c.given.op (quorum_of c.given) h.size keep count) head (subst (λ (v : Given). CutsStripes v.op (quorum_of v) group.head.size keep count) (sym given) (cut_range d.given group is));
          tail = subst (λ (h : Head). WroteTail c.given.op (quorum_of c.given) h.size (changes_at (at c g y))) head
              (subst (λ (v : Given). WroteTail v.op (quorum_of v) group.head.size (changes_at (at c g y))) (sym given)
              (subst (λ (h : ℕ → Dealings). WroteTail d.given.op (quorum_of d.given) group.head.size (changes_at ((h g).place y))) (sym on) tail));
        }),
      )

-- ## The table

abbrev truncate_early : TruncateStage → Bool
truncate_early (cuts.Opens o) = true
truncate_early (cuts.Votes b) = early_ballot b
truncate_early (cuts.Reads group reading) = true
truncate_early (cuts.Writes group lists) = false
truncate_early (cuts.Cuts group) = false

abbrev truncate_fits : Making → TruncateStage → Type 0
truncate_fits w (cuts.Opens o) = ⊥
truncate_fits w (cuts.Votes b) = LateBallot w b
truncate_fits w (cuts.Reads group reading) = ⊥
truncate_fits w (cuts.Writes group lists) = group.head ≡ w.head
truncate_fits w (cuts.Cuts group) = group.head ≡ w.head

module _ (x : Ctx) (given : Given) where
  truncate_again : (p : TruncateStage) (c : Account) (y : ℕ) (r : Request) → (truncate_table x).again p ≡ true → (truncate_table x).asks p c y ≡ Some r → IsFree x (truncate_table x) (DuringTruncate x) (truncate_sound x) given y r
  truncate_again (cuts.Reads group reading) c y r so e = λ w d is. untold w d y r (reading_untold reading c y r (where_is (nat_lt reading.start 31) (reading_asks reading c) y r e))
  truncate_again (cuts.Opens o) c y r so e = absurd (cc)
  truncate_again (cuts.Votes b) c y r so e = absurd (cc)
  truncate_again (cuts.Writes group lists) c y r so e = absurd (cc)
  truncate_again (cuts.Cuts group) c y r so e = absurd (cc)

  truncate_begins : (q : TruncateStage) → (truncate_table x).starts given (Go q) → truncate_early q ≡ true
  truncate_begins q (is, e) = by _ (nat_lt (2 ^ 40) (to_of given.op)) e
    where
      by : (a : Answer) (s : Bool) → Go q ≡ cond s (Say a) (Go (cuts.Opens (Locking 0))) → truncate_early q ≡ true
      by a true e = absurd (go_say q _ e)
      by a false e = ap truncate_early (go_is q (cuts.Opens (Locking 0)) e)

  truncate_quiet : (q : TruncateStage) (c : Account) (y : ℕ) (r : Request) → truncate_early q ≡ true → (truncate_table x).asks q c y ≡ Some r → IsFree x (truncate_table x) (DuringTruncate x) (truncate_sound x) given y r
  truncate_quiet (cuts.Opens o) c y r early e = λ w d is. untold w d y r (opening_untold Exclusive o c y r e)
  truncate_quiet (cuts.Votes (Pre group)) c y r early e = λ w d is. untold w d y r (pre_untold group c y r e)
  truncate_quiet (cuts.Votes (Post group)) c y r early e = absurd (cc)
  truncate_quiet (cuts.Votes (Clear group)) c y r early e = absurd (cc)
  truncate_quiet (cuts.Reads group reading) c y r early e = λ w d is. untold w d y r (reading_untold reading c y r (where_is (nat_lt reading.start 31) (reading_asks reading c) y r e))
  truncate_quiet (cuts.Writes group lists) c y r early e = absurd (cc)
  truncate_quiet (cuts.Cuts group) c y r early e = absurd (cc)

  truncate_posts : (w : Making) (group : Group) (c d : Account) → group.head ≡ w.head → c.given ≡ given → d.given ≡ given → DuringTruncate x (cuts.Votes (Post group)) d ((truncate_table x).asks (cuts.Votes (Post group)) c) → Asked x (truncate_table x) (DuringTruncate x) (truncate_sound x) given w (cuts.Votes (Post group)) c d
  truncate_posts w group c d head cg dg dur = inl (λ y r e. posts_told w group c d head dur.1.group (cg ∙ sym dg) y r e)

  truncate_clears : (w : Making) (group : Group) (c d : Account) → Asked x (truncate_table x) (DuringTruncate x) (truncate_sound x) given w (cuts.Votes (Clear group)) c d
  truncate_clears w group c d = inr (λ y r e v z is. untold v z y r (clear_untold group c y r e))

  abbrev IsNext : Making → TruncateStage → Account → Account → Type 0
  IsNext w q c d = truncate_fits w q × Asked x (truncate_table x) (DuringTruncate x) (truncate_sound x) given w q c d

  truncate_goes : (q : TruncateStage) (c d : Account) → truncate_early q ≡ false → c.given ≡ given → d.given ≡ given → DuringTruncate x q d ((truncate_table x).asks q c) → (w : Making) × truncate_fits w q × Asked x (truncate_table x) (DuringTruncate x) (truncate_sound x) given w q c d
  truncate_goes (cuts.Opens o) c d late cg dg dur = absurd (cc)
  truncate_goes (cuts.Votes (Pre group)) c d late cg dg dur = absurd (cc)
  truncate_goes (cuts.Votes (Post group)) c d late cg dg dur = (nothing_made group, refl, truncate_posts (nothing_made group) group c d refl cg dg dur)
  truncate_goes (cuts.Votes (Clear group)) c d late cg dg dur = (nothing_made group, tt, truncate_clears (nothing_made group) group c d)
  truncate_goes (cuts.Reads group reading) c d late cg dg dur = absurd (cc)
  truncate_goes (cuts.Writes group lists) c d late cg dg dur =
      let f = (truncate_table x).asks (cuts.Writes group lists) c in
      let fills = truncate_fills d.given.op dur.0.0 group in
      let low = low_of d.given.op group in (
        making group low [] low lists f d dur.1.written fills,
        refl,
        inl (written group low [] low lists f d dur.1.written fills (λ n e. tail_range d.given group n dur.0.0 dur.1.inside e)),
      )
  truncate_goes (cuts.Cuts group) c d late cg dg dur = (nothing_made group, refl, inl (cut (nothing_made group) group ((truncate_table x).asks (cuts.Cuts group) c) d dur.0.0 dur.1 refl))

  truncate_further : (w : Making) (p q : TruncateStage) (c d : Account) → truncate_fits w p → (truncate_table x).follows p c (Go q) → c.given ≡ given → d.given ≡ given → DuringTruncate x q d ((truncate_table x).asks q c) → IsNext w q c d
  truncate_further w (cuts.Opens o) q c d fits follows cg dg dur = absurd fits
  truncate_further w (cuts.Reads group reading) q c d fits follows cg dg dur = absurd fits
  truncate_further w (cuts.Votes (Pre group)) q c d fits follows cg dg dur = absurd fits
  truncate_further w (cuts.Votes (Post group)) q c d fits follows cg dg dur =
      let e = go_when (nat_le (bricks_of c.given) (count_serving c group)) (cuts.Votes (Clear group)) q (says_to c group) (if_quorum c group _ (λ (next : Next TruncateStage). next ≡ cond (nat_le (bricks_of c.given) (count_serving c group)) (Go (cuts.Votes (Clear group))) (Say (says_to c group))) q follows) in
      subst (λ (z : TruncateStage). IsNext w z c d) (sym e) (tt, truncate_clears w group c d)
  truncate_further w (cuts.Votes (Clear group)) q c d fits follows cg dg dur = absurd (go_say q _ follows)
  truncate_further w (cuts.Writes group lists) q c d fits follows cg dg dur =
      let e = go_is q (cuts.Cuts group) (if_quorum c group WritePhase (λ (next : Next TruncateStage). next ≡ Go (cuts.Cuts group)) q follows) in
      let dur' = subst (λ (z : TruncateStage). DuringTruncate x z d ((truncate_table x).asks z c)) e dur in
      subst (λ (z : TruncateStage). IsNext w z c d) (sym e) (fits, inl (cut w group ((truncate_table x).asks (cuts.Cuts group) c) d dur'.0.0 dur'.1 fits))
  truncate_further w (cuts.Cuts group) q c d fits follows cg dg dur =
      let e = go_is q (cuts.Votes (Post group)) (if_quorum c group TrimPhase (λ (next : Next TruncateStage). next ≡ Go (cuts.Votes (Post group))) q follows) in
      let dur' = subst (λ (z : TruncateStage). DuringTruncate x z d ((truncate_table x).asks z c)) e dur in
      subst (λ (z : TruncateStage). IsNext w z c d) (sym e) (fits, truncate_posts w group c d fits cg dg dur')

  pub truncate_makes : MakesStripes x (truncate_table x) (DuringTruncate x) (truncate_sound x) given
  truncate_makes = record { early = truncate_early; fits = truncate_fits; again = truncate_again; starts = truncate_begins; quiet = truncate_quiet; goes = truncate_goes; further = truncate_further }

-- The rounds in which the bricks of the good group are asked for names, and what they replied.
use Rattle.std.proofs.Common.{◌≡◌, ◌⊎◌, inl, inr, ⊎_elim, ℕ, ◌+◌, ◌<◌, ◌≤◌, ◌&&◌, ◌||◌, nat_lt, is_some, Bool, true, false, cond, refl, sym, ◌∙◌, ap, subst, List, [], ◌∷◌, arith, Option, Some, None}
use Rattle.std.proofs.Math.Path.{fun_ext}
use Rattle.std.proofs.lemmas.Bool.Decides.{nat_tests}
use Rattle.ec_answers.specs.declared.grouped.Group.{Group}
use Rattle.ec_answers.proofs.Counting.{count_within}
use Rattle.ec_attr.specs.Bricks.{count_below, is_in}
use Rattle.ec_attr.specs.declared.kind.LockKind.{LockKind}
use Rattle.ec_conduct.specs.Account.{Account, Exchange, Place as PlaceOf, at}
use Rattle.ec_conduct.specs.Done.{failed_none, is_any, is_names, is_query, reply_to, tried}
use Rattle.ec_conduct.specs.Given.{Given, bricks_of, quorum_of}
use Rattle.ec_conduct.specs.Standing.{head_of}
use Rattle.ec_entry.specs.Members.{under_grant}
use Rattle.ec_entry.specs.Paging.{count_paged, page_in, paged}
use Rattle.ec_entry.specs.Readdir.{names_asks}
use Rattle.ec_store.specs.Pages.{Page}
use Rattle.ec_txn.specs.Ballot.{serving}
use Rattle.ec_txn.specs.Opening.{IsQuerying}
use Rattle.ec_txn.specs.Replies.{last_reply, replied}
use Rattle.ec_txn.specs.Rounds.{Asks, IsIdle, IsIn, IsRound, IsUnlocked, subject}
use Rattle.ec_txn.proofs.Ballots.{unlocked_serving}
use Rattle.ec_txn.proofs.Fetching.{within}
use Rattle.ec_wire.specs.declared.answer.Answer.TheVariants.{NoQuorum}
use Rattle.ec_wire.specs.declared.phase.Phase.TheVariants.{Names as NamesPhase}
use Rattle.ec_wire.specs.declared.reply.Reply.{Reply}
use Rattle.ec_wire.specs.declared.reply.Reply.TheVariants.{Granted, Head as HeadIs, Chunks, Child, Names, Done, NoGrant, NoInode, IsInode, OtherKind, NotAt, Fault, Gfids}
use Rattle.ec_wire.specs.declared.request.Request.{Request}
use Rattle.ec_wire.specs.declared.request.Request.TheVariants.{NamesAfter}
use Rattle.ec_law_causes.specs.Counted.{LacksPages, is_grouped, number, reply_in, times}
use Rattle.ec_law_causes.proofs.Along.{NonePast, windows}
use Rattle.ec_law_causes.proofs.Members.{HasMembers, fails, grouped_below, members_more, members_over, members_unlocked, none_grouped}
use Rattle.ec_law_causes.proofs.Ranks.{OnlyLate, rank, unreplied, untried}
use Rattle.ec_law_causes.proofs.Rounds.{IsOver, over_at}

-- The group is asked for names past a name, for the first time or again: its bricks that did all they were asked.
pub record HerePaging (given : Given) (group : Group) (c : Account) (f : Asks) : Type 0 where
  pub members : HasMembers given group 3 c
  pub asks : (x : ℕ) (r : Request) → f x ≡ Some r → (is_names r ≡ true) × (rank r ≡ 2)
  pub asked : (x i : ℕ) → is_in group.bricks x ≡ true → x < bricks_of given → serving (at c (subject given.op) x) ≡ Some i → (r : Request) × (f x ≡ Some r)
  pub unasked : (x : ℕ) → serving (at c (subject given.op) x) ≡ None → f x ≡ None
  -- the last reply is that to the last request for names
  pub last : (x : ℕ) → is_in group.bricks x ≡ true → page_in (last_reply (windows given c x)) ≡ page_in (reply_to is_names (windows given c x))
  -- so many rounds are over
  pub rounds : ℕ
  pub most : (x : ℕ) → is_in group.bricks x ≡ true → times is_names (windows given c x) ≤ rounds
  pub all : (x i : ℕ) → is_in group.bricks x ≡ true → serving (at c (subject given.op) x) ≡ Some i → rounds ≤ times is_names (windows given c x)

-- ## What is asked

none_some : {X : Type 0} (a : X) → None ≡ Some a → ⊥
none_some a e = cc

abbrev pub names_request : ℕ → Option (List ℕ) → ℕ → Request
names_request g past grant = NamesAfter (record { 0 = g }) grant past

granted_is : (o : Option ℕ) (g : ℕ) (past : Option (List ℕ)) (r : Request) → under_grant o (names_request g past) ≡ Some r → (is_names r ≡ true) × (rank r ≡ 2)
granted_is None g past r e = absurd (none_some r e)
granted_is (Some grant) g past r e = let w : r ≡ names_request g past grant = cc in (ap is_names w, ap rank w)

none_when : (t : Bool) (o : Option Request) → o ≡ None → cond t o None ≡ None
none_when true o e = e
none_when false o e = refl

module _ (given : Given) (group : Group) (past : Option (List ℕ)) (d e : Account) (dg : d.given ≡ given) (u : IsUnlocked (subject given.op) d e) where
  names_are : (x : ℕ) (r : Request) → names_asks group.bricks past d x ≡ Some r → (is_names r ≡ true) × (rank r ≡ 2)
  names_are x r a = granted_is (serving (at d (subject d.given.op) x)) (subject d.given.op) past r (within (is_in group.bricks x && nat_lt x (bricks_of d.given)) (under_grant (serving (at d (subject d.given.op) x)) (names_request (subject d.given.op) past)) r a).1

  names_some : (x i : ℕ) → is_in group.bricks x ≡ true → x < bricks_of given → serving (at e (subject given.op) x) ≡ Some i → (r : Request) × (names_asks group.bricks past d x ≡ Some r)
  names_some x i t less s = subst (λ (v : Given). (r : Request) × (cond (is_in group.bricks x && nat_lt x (bricks_of v)) (under_grant (serving (at d (subject v.op) x)) (names_request (subject v.op) past)) None ≡ Some r)) (sym dg) (
      let l : nat_lt x (bricks_of given) ≡ true = grind (arith, nat_tests) in
      let s' : serving (at d (subject given.op) x) ≡ Some i = sym (unlocked_serving (subject given.op) x d e u) ∙ s in
      (names_request (subject given.op) past i, rw (t, l, s') refl)
      )

  names_none : (x : ℕ) → serving (at e (subject given.op) x) ≡ None → names_asks group.bricks past d x ≡ None
  names_none x s = subst (λ (v : Given). cond (is_in group.bricks x && nat_lt x (bricks_of v)) (under_grant (serving (at d (subject v.op) x)) (names_request (subject v.op) past)) None ≡ None) (sym dg) (
      let s' : serving (at d (subject given.op) x) ≡ None = sym (unlocked_serving (subject given.op) x d e u) ∙ s in
      none_when (is_in group.bricks x && nat_lt x (bricks_of given)) (under_grant (serving (at d (subject given.op) x)) (names_request (subject given.op) past)) (ap (λ (o : Option ℕ). under_grant o (names_request (subject given.op) past)) s')
      )

-- ## The first round

apart : (o : Option Reply) → (page_in o ≡ None) ⊎ (head_of o ≡ None)
apart None = inl refl
apart (Some Granted) = inl refl
apart (Some (HeadIs h)) = inl refl
apart (Some (Chunks x)) = inl refl
apart (Some (Child x)) = inl refl
apart (Some (Names x)) = inr refl
apart (Some Done) = inl refl
apart (Some (NoGrant x)) = inl refl
apart (Some NoInode) = inl refl
apart (Some IsInode) = inl refl
apart (Some OtherKind) = inl refl
apart (Some (NotAt x)) = inl refl
apart (Some Fault) = inl refl
apart (Some (Gfids x)) = inl refl

or_false : (a b : Bool) → (a || b) ≡ false → (a ≡ false) × (b ≡ false)
or_false true b e = absurd (cc)
or_false false b e = (refl, e)

never : (p : Request → Bool) (es : List Exchange) → tried p es ≡ false → times p es ≡ 0
never p [] e = refl
never p (k ∷ es) e = let w = or_false (p k.request) (tried p es) e in ap (λ (t : Bool). cond t (times p es + 1) (times p es)) w.0 ∙ never p es w.1

only_names : OnlyLate 2 is_names
only_names (NamesAfter g grant past) e = omega arith
only_names r e = absurd (cc)

-- as the Queries are over, each brick of the group has replied its head last
headed_last : (given : Given) (kind : LockKind) (group : Group) (c : Account) (f : Asks) (d : Account) → IsQuerying (subject given.op) (bricks_of given) kind c f → IsRound (subject given.op) c f d → IsIdle d → HasMembers given group 2 d
    → (x : ℕ) → is_in group.bricks x ≡ true → page_in (last_reply (windows given d x)) ≡ None
headed_last given kind group c f d l r idle m x t = go (f x) refl
  where
    headed : head_of (reply_to is_query (windows given d x)) ≡ None → ⊥
    headed n = none_grouped given (windows given d) x (m.group_is.bricks x ∙ t) n

    go : (o : Option Request) → f x ≡ o → page_in (last_reply (windows given d x)) ≡ None
    go None e =
        let w : windows given d x ≡ windows given c x = subst (λ (o : Option Request). IsOver o (windows given c x) (windows given d x)) e (over_at (subject given.op) c f d r idle x) in
        absurd (headed (ap (λ (es : List Exchange). head_of (reply_to is_query es)) w ∙ ap head_of (l.opens.quiet x)))
    go (Some q) e =
        let w : IsOver (Some q) (windows given c x) (windows given d x) = subst (λ (o : Option Request). IsOver o (windows given c x) (windows given d x)) e (over_at (subject given.op) c f d r idle x) in
        let is : is_query q ≡ true = ap is_query (l.asks x q e).4 in
        let replied : reply_to is_query (windows given d x) ≡ w.1 = ap (reply_to is_query) w.2 ∙ rw is refl in
        ⊎_elim (λ n. ap (λ (es : List Exchange). page_in (last_reply es)) w.2 ∙ n) (λ n. absurd (headed (ap head_of replied ∙ n))) (apart w.1)

pub paging_begins : (given : Given) (kind : LockKind) (group : Group) (c : Account) (f : Asks) (d e : Account) → d.given ≡ given → IsQuerying (subject given.op) (bricks_of given) kind c f → IsRound (subject given.op) c f d → IsIdle d → HasMembers given group 2 d
    → IsUnlocked (subject given.op) d e → HerePaging given group e (names_asks group.bricks None d)
paging_begins given kind group c f d e dg l r idle m u = record {
  members = members_more given group 2 3 e (omega arith) (members_unlocked given group 2 d e u m);
  asks = names_are given group None d e dg u;
  asked = names_some given group None d e dg u;
  unasked = names_none given group None d e dg u;
  last = λ x t. ap (λ (es : List Exchange). page_in (last_reply es)) (u.window x) ∙ (headed_last given kind group c f d l r idle m x t ∙ sym (ap (λ (es : List Exchange). page_in (reply_to is_names es)) (u.window x) ∙ ap page_in (unreplied is_names (windows given d x) (fresh x))));
  rounds = 0;
  most = λ x t. (let z = none x in omega (arith, z));
  all = λ x i t s. omega arith;
}
  where
    fresh : (x : ℕ) → tried is_names (windows given d x) ≡ false
    fresh x = untried 2 is_names (windows given d x) only_names (m.below x)

    none : (x : ℕ) → times is_names (windows given e x) ≡ 0
    none x = ap (times is_names) (u.window x) ∙ never is_names (windows given d x) (fresh x)

-- ## A round is over

module _ (given : Given) (group : Group) (c : Account) (f : Asks) (d : Account) (h : HerePaging given group c f) (r : IsRound (subject given.op) c f d) (idle : IsIdle d) (past : NonePast (subject given.op) (bricks_of given) d) where
  pub paging_members : HasMembers given group 3 d
  paging_members = members_over given group 3 3 c f d h.members r idle (omega arith) (λ x q e. let k = (h.asks x q e).1 in (omega (arith, k), omega (arith, k)))

  -- what a brick of the group did in the round: it was asked and this is its last reply, or it had failed
  record Did (x : ℕ) : Type 0 where
    pub last : page_in (last_reply (windows given d x)) ≡ page_in (reply_to is_names (windows given d x))
    pub most : times is_names (windows given d x) ≤ h.rounds + 1
    pub asked : ((tried is_names (windows given d x) ≡ true) × (h.rounds + 1 ≤ times is_names (windows given d x))) ⊎ ((failed_none is_any (windows given d x) ≡ false) × (serving (at d (subject given.op) x) ≡ None))

  did_at : (x : ℕ) → is_in group.bricks x ≡ true → Did x
  did_at x t = go (serving (at c (subject given.op) x)) refl
    where
      less : x < bricks_of given
      less = grouped_below given (windows given d) x (λ y le. (past y le).1) (paging_members.group_is.bricks x ∙ t)

      go : (o : Option ℕ) → serving (at c (subject given.op) x) ≡ o → Did x
      go None s =
          let kept : at d (subject given.op) x ≡ at c (subject given.op) x = (subst (λ (q : Option Request). IsIn q (at c (subject given.op) x) (d.waits x) (at d (subject given.op) x)) (h.unasked x s) (r.each x)).1 in
          record {
            last = ap (λ (z : PlaceOf). page_in (last_reply z.window)) kept ∙ (h.last x t ∙ sym (ap (λ (z : PlaceOf). page_in (reply_to is_names z.window)) kept));
            most = (let same = ap (λ (z : PlaceOf). times is_names z.window) kept in let m = h.most x t in omega (arith, same, m));
            asked = inr (ap (λ (z : PlaceOf). failed_none is_any z.window) kept ∙ fails (at c (subject given.op) x) (h.members.locked x t) s, ap serving kept ∙ s);
          }
      go (Some i) s =
          let a = h.asked x i t less s in
          let w : IsOver (Some a.0) (windows given c x) (windows given d x) = subst (λ (o : Option Request). IsOver o (windows given c x) (windows given d x)) a.1 (over_at (subject given.op) c f d r idle x) in
          let is = (h.asks x a.0 a.1).0 in
          let more : times is_names (windows given d x) ≡ times is_names (windows given c x) + 1 = ap (times is_names) w.2 ∙ rw is refl in
          record {
            last = ap (λ (es : List Exchange). page_in (last_reply es)) w.2 ∙ sym (ap (λ (es : List Exchange). page_in (reply_to is_names es)) w.2 ∙ rw is refl);
            most = (let m = h.most x t in omega (arith, more, m));
            asked = inl (ap (tried is_names) w.2 ∙ rw is refl, (let m = h.all x i t s in omega (arith, more, m)));
          }

  -- the next round
  pub paging_again : (name : Option (List ℕ)) (e : Account) → d.given ≡ given → IsUnlocked (subject given.op) d e → HerePaging given group e (names_asks group.bricks name d)
  paging_again name e dg u = record {
    members = members_unlocked given group 3 d e u paging_members;
    asks = names_are given group name d e dg u;
    asked = names_some given group name d e dg u;
    unasked = names_none given group name d e dg u;
    last = λ x t. ap (λ (es : List Exchange). page_in (last_reply es)) (u.window x) ∙ ((did_at x t).last ∙ sym (ap (λ (es : List Exchange). page_in (reply_to is_names es)) (u.window x)));
    rounds = h.rounds + 1;
    most = λ x t. (let same = ap (times is_names) (u.window x) in let m = (did_at x t).most in omega (arith, same, m));
    all = λ x i t s. ⊎_elim
        (λ w. (let same = ap (times is_names) (u.window x) in let m = w.1 in omega (arith, same, m)))
        (λ w. absurd (none_some i (sym w.1 ∙ (sym (unlocked_serving (subject given.op) x d e u) ∙ s))))
        (did_at x t).asked;
  }

  -- ## What the pages come to

  abbrev page_at : ℕ → Option Page
  page_at x = cond (is_grouped given (windows given d) x) (page_in (reply_in NamesPhase (windows given d) x)) None

  paged_now : paged group.bricks (replied d (subject given.op)) ≡ page_at
  paged_now = fun_ext (λ x. by x (is_in group.bricks x) refl)
    where
      by : (x : ℕ) (t : Bool) → is_in group.bricks x ≡ t → paged group.bricks (replied d (subject given.op)) x ≡ page_at x
      by x true t = ap (λ (u : Bool). cond u (page_in (last_reply (windows given d x))) None) t ∙ ((did_at x t).last ∙ sym (ap (λ (u : Bool). cond u (page_in (reply_to is_names (windows given d x))) None) (paging_members.group_is.bricks x ∙ t)))
      by x false t = ap (λ (u : Bool). cond u (page_in (last_reply (windows given d x))) None) t ∙ sym (ap (λ (u : Bool). cond u (page_in (reply_to is_names (windows given d x))) None) (paging_members.group_is.bricks x ∙ t))

  some_cond : (t : Bool) (o : Option Page) → is_some (cond t o None) ≡ (t && is_some o)
  some_cond true o = refl
  some_cond false o = refl

  no_page : (t : Bool) (o : Option Page) → o ≡ None → is_some (cond t o None) ≡ false
  no_page true o e = ap is_some e
  no_page false o e = refl

  -- so many gave a page as the phase counts
  pub count_pages : count_paged (paged group.bricks (replied d (subject given.op))) ≡ number given (windows given d) NamesPhase
  count_pages =
      ap count_paged paged_now
      ∙ (count_within 31 (bricks_of given) (λ x. is_some (page_at x)) (let m = given.geometry.bricks in omega arith) (λ x le. no_page (is_grouped given (windows given d) x) (page_in (reply_in NamesPhase (windows given d) x)) (ap (λ (es : List Exchange). page_in (reply_to is_names es)) (past x le).1))
      ∙ ap (count_below (bricks_of given)) (fun_ext (λ x. some_cond (is_grouped given (windows given d) x) (page_in (reply_in NamesPhase (windows given d) x)))))

  pub lacks_pages : (most : ℕ) → most ≡ number given (windows given d) NamesPhase → most < quorum_of given → LacksPages given (windows given d) (NoQuorum NamesPhase most)
  lacks_pages most same few = record {
    short = record {
      asked = λ x less b. ⊎_elim (λ w. inl w.0) (λ w. inr w.0) (did_at x (sym (paging_members.group_is.bricks x) ∙ b)).asked;
      few = subst (λ (m : ℕ). m < quorum_of given) same few;
      answer_is = ap (NoQuorum NamesPhase) same;
    };
    rounds = λ x y lx ly bx b. ⊎_elim
        (λ w. inl (let m = (did_at y (sym (paging_members.group_is.bricks y) ∙ b)).most in let all = w.1 in omega (arith, m, all)))
        (λ w. inr w.0)
        (did_at x (sym (paging_members.group_is.bricks x) ∙ bx)).asked;
  }

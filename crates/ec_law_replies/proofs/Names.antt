-- A readdir that is answered names lists what bricks of the good group told.
use Rattle.std.proofs.Common.{◌≡◌, inl, inr, ℕ, ◌+◌, ◌<◌, ◌≤◌, ◌&&◌, nat_le, nat_lt, Bool, true, false, cond, refl, sym, ◌∙◌, ap, subst, arith, List, [], ◌++◌, Option, Some, None}
use Rattle.ec_answers.specs.declared.grouped.Group.{Group}
use Rattle.ec_answers.specs.declared.grouped.Grouped.{Grouped}
use Rattle.ec_answers.specs.declared.grouped.Grouped.TheVariants.{Group as Found, Gone, Fewer}
use Rattle.ec_attr.specs.Bricks.{is_in}
use Rattle.ec_attr.specs.declared.kind.Kind.{Kind}
use Rattle.ec_attr.specs.declared.kind.Kind.TheVariants.{Dir, File}
use Rattle.ec_attr.specs.declared.kind.LockKind.TheVariants.{Shared}
use Rattle.ec_conduct.specs.Account.{Account, Exchange, at}
use Rattle.ec_conduct.specs.Done.{failed_none, is_any, is_done, is_names, tried}
use Rattle.ec_conduct.specs.Given.{Given, bricks_of, quorum_of}
use Rattle.ec_conduct.specs.Opened.{opened}
use Rattle.ec_entry.specs.Members.{under_grant}
use Rattle.ec_entry.specs.Paging.{Entries, count_paged, page_in, paged}
use Rattle.ec_entry.specs.Readdir.{DuringReaddir, PageFollows, ReaddirFollows, ReaddirJudges, goes_on, names_asks, of_kind, readdir_asks, readdir_next, readdir_table}
use Rattle.ec_entry.specs.declared.readdir.ReaddirStage.{ReaddirStage}
use Rattle.ec_entry.specs.declared.readdir.ReaddirStage.TheVariants.{Names, Opens as OpensAt}
use Rattle.ec_store.specs.Pages.{Page}
use Rattle.ec_txn.specs.Ballot.{serving}
use Rattle.ec_txn.specs.Opening.{InOpening, count_locks}
use Rattle.ec_txn.specs.Replies.{last_reply, replied}
use Rattle.ec_txn.specs.Rounds.{Asks, IsIdle, IsRound, IsUnlocked, subject}
use Rattle.ec_txn.specs.Tables.{IsIn}
use Rattle.ec_txn.specs.declared.ctx.Ctx.{Ctx}
use Rattle.ec_txn.specs.declared.opening.Opening.TheVariants.{Lock as Locking, Query}
use Rattle.ec_txn.specs.declared.stage.Next.{Next}
use Rattle.ec_txn.specs.declared.stage.Next.TheVariants.{Go, Say}
use Rattle.ec_txn.proofs.Ballots.{serving_is}
use Rattle.ec_txn.proofs.Fetching.{within}
use Rattle.ec_wire.specs.declared.answer.Answer.{Answer}
use Rattle.ec_wire.specs.declared.answer.Answer.TheVariants.{Names as NamesOf, NoQuorum, NoSuch, NotDir}
use Rattle.ec_wire.specs.declared.phase.Phase.TheVariants.{Lock as LockPhase, Names as NamesPhase, Query as QueryPhase}
use Rattle.ec_wire.specs.declared.reply.Reply.{Reply}
use Rattle.ec_wire.specs.declared.reply.Reply.TheVariants.{Names as NamesAre}
use Rattle.ec_wire.specs.declared.request.Request.{Request}
use Rattle.ec_wire.specs.declared.request.Request.TheVariants.{NamesAfter}
use Rattle.ec_law_causes.specs.Counted.{Windows, is_grouped}
use Rattle.ec_law_causes.proofs.Along.{IsKept, NonePast, Tells as TellsOf, unlocked, windows}
use Rattle.ec_law_causes.proofs.Members.{HasMembers, fails, grouped_below, members_begin, members_unlocked}
use Rattle.ec_law_causes.proofs.Openings.{HereOpening, opening_here}
use Rattle.ec_law_causes.proofs.OpeningSteps.{go_same, go_say, lock_goes, queried, querying, say_go, say_same}
use Rattle.ec_law_causes.proofs.Paging.{HerePaging, paging_again, paging_members}
use Rattle.ec_law_causes.proofs.Queried.{judged}
use Rattle.ec_law_causes.proofs.Ranks.{OnlyLate, unreplied, untried}
use Rattle.ec_law_causes.proofs.Readdir.{HereReaddir, readdir_kept}
use Rattle.ec_law_causes.proofs.Rounds.{IsOver, over_at}
use Rattle.ec_law_replies.specs.Replies.{GivesNames}
use Rattle.ec_law_replies.proofs.Bytes.{contains_last}
use Rattle.ec_law_replies.proofs.Listing.{Paged, SoFar, contains_over, round_ends, round_over, round_rises, so_far_grows, so_far_none}

-- what an answer of names comes of
abbrev pub NamesCome : Given → Windows → Answer → Type 0
NamesCome given w answer = (list : Entries) → answer ≡ NamesOf list → GivesNames given w list

-- Names past a name are asked for, the list so far is settled, and a brick that isn't asked has replied no page last.
pub record HereNames (given : Given) (bits : ℕ) (past : Option (List ℕ)) (list : Entries) (c : Account) (f : Asks) : Type 0 where
  pub here : HereReaddir given (Names bits past list) c f
  pub asks : (x : ℕ) (r : Request) → f x ≡ Some r → (grant : ℕ) × (r ≡ NamesAfter (record { 0 = subject given.op }) grant past)
  pub silent : (x : ℕ) → is_in bits x ≡ true → f x ≡ None → page_in (last_reply (windows given c x)) ≡ None
  pub so_far : SoFar (quorum_of given) (bricks_of given) bits (windows given c) past list

abbrev pub HereListing : Given → ReaddirStage → Account → Asks → Type 0
HereListing given (OpensAt stage) c f = HereOpening Shared given stage c f
HereListing given (Names bits past list) c f = HereNames given bits past list c f

-- ## What is asked

none_some : {X : Type 0} (a : X) → None ≡ Some a → ⊥
none_some a e = cc

some_same : {X : Type 0} (a b : X) → Some a ≡ Some b → a ≡ b
some_same a b e = cc

asks_are : (bits : ℕ) (past : Option (List ℕ)) (given : Given) (d : Account) → d.given ≡ given → (x : ℕ) (r : Request) → names_asks bits past d x ≡ Some r → (grant : ℕ) × (r ≡ NamesAfter (record { 0 = subject given.op }) grant past)
asks_are bits past given d dg x r e =
    let w = within (is_in bits x && nat_lt x (bricks_of d.given)) (under_grant (serving (at d (subject d.given.op) x)) (λ grant. NamesAfter (record { 0 = subject d.given.op }) grant past)) r e in
    by (serving (at d (subject d.given.op) x)) w.1
  where
    by : (o : Option ℕ) → under_grant o (λ grant. NamesAfter (record { 0 = subject d.given.op }) grant past) ≡ Some r → (grant : ℕ) × (r ≡ NamesAfter (record { 0 = subject given.op }) grant past)
    by None v = absurd (none_some r v)
    by (Some grant) v = (grant, some_same r (NamesAfter (record { 0 = subject d.given.op }) grant past) (sym v) ∙ ap (λ (u : Given). NamesAfter (record { 0 = subject u.op }) grant past) dg)

only_names : OnlyLate 2 is_names
only_names (NamesAfter g grant past) e = omega arith
only_names r e = absurd (cc)

page_of : (o : Option Reply) (page : Page) → page_in o ≡ Some page → o ≡ Some (NamesAre page)
page_of (Some (NamesAre list)) page e = ap (λ (p : Page). Some (NamesAre p)) (some_same list page e)
page_of o page e = absurd (cc)

paged_is : (t : Bool) (o : Option Page) (page : Page) → cond t o None ≡ Some page → (t ≡ true) × (o ≡ Some page)
paged_is true o page e = (refl, e)
paged_is false o page e = absurd (none_some page e)

true_false : (t : Bool) → t ≡ true → t ≡ false → ⊥
true_false true e f = absurd (cc)
true_false false e f = absurd (cc)

-- ## What follows

abbrev gives_names : Next ReaddirStage → Bool
gives_names (Say (NamesOf list)) = true
gives_names next = false

none_given : {Z : Type 0} (answer : Answer) (next : Next ReaddirStage) (list : Entries) → Say answer ≡ next → gives_names next ≡ false → answer ≡ NamesOf list → Z
none_given answer next list e n is = absurd (let v : true ≡ false = ap (λ (a : Answer). gives_names (Say a)) (sym is) ∙ (ap gives_names e ∙ n) in cc)

when_neither : (t : Bool) (a b : Next ReaddirStage) → gives_names a ≡ false → gives_names b ≡ false → gives_names (cond t a b) ≡ false
when_neither true a b e f = e
when_neither false a b e f = f

same_list : (a b : Entries) → NamesOf a ≡ NamesOf b → a ≡ b
same_list a b e = cc

module _ (x : Ctx) (given : Given) (c : Account) (f : Asks) (d : Account) (isin : IsIn x given c) (none : NonePast (subject given.op) (bricks_of given) d) (r : IsRound (subject given.op) c f d) (idle : IsIdle d) where
  dg : d.given ≡ given
  dg = r.given ∙ isin.given_is

  -- the Queries are over
  query_goes : (q : ReaddirStage) (e : Account) (grouped : Grouped) → HereOpening Shared given Query c f → InOpening Shared Query c f → Rattle.ec_law_causes.proofs.Queried.JudgedIn given (windows given d) (λ answer. ⊥) grouped → ReaddirJudges d grouped (Go q)
      → IsUnlocked (subject given.op) d e → HereReaddir given q e (readdir_asks q d) → HereListing given q e (readdir_asks q d)
  query_goes q e (Gone bricks) here l h is u base = absurd (go_say q NoSuch is)
  query_goes q e (Fewer most) here l h is u base = absurd (go_say q (NoQuorum QueryPhase most) is)
  query_goes q e (Found group) here l h is u base = by group.head.kind is
    where
      first : HereReaddir given (Names group.bricks None []) e (names_asks group.bricks None d) → HereNames given group.bricks None [] e (names_asks group.bricks None d)
      first b = record {
        here = b;
        asks = asks_are group.bricks None given d dg;
        silent = λ y t n.
            (let m = members_begin given Shared group c f d (querying Shared given c f d isin.given_is l here r idle none) here r idle h in
            b.3.last y (ap (λ (bits : ℕ). is_in bits y) b.1 ∙ t)
            ∙ ap page_in (unreplied is_names (windows given e y) (ap (tried is_names) (u.window y) ∙ untried 2 is_names (windows given d y) only_names (m.below y))));
        so_far = so_far_none (quorum_of given) (bricks_of given) group.bricks (windows given e);
      }

      by : (kind : Kind) → Go q ≡ of_kind kind group.bricks → HereListing given q e (readdir_asks q d)
      by File v = absurd (go_say q NotDir v)
      by Dir v =
          let s = go_same q (Names group.bricks None []) v in
          subst (λ (z : ReaddirStage). HereListing given z e (readdir_asks z d)) (sym s) (first (subst (λ (z : ReaddirStage). HereReaddir given z e (readdir_asks z d)) s base))

  -- names were asked for
  module _ (bits : ℕ) (past : Option (List ℕ)) (list : Entries) (h : HereNames given bits past list c f) where
    abbrev group : Group
    group = h.here.0

    members : HasMembers given h.here.0 3 d
    members = paging_members given h.here.0 c f d h.here.3 r idle none

    in_group : (y : ℕ) → is_in bits y ≡ true → is_in h.here.0.bricks y ≡ true
    in_group y t = ap (λ (b : ℕ). is_in b y) h.here.1 ∙ t

    grouped : (y : ℕ) → is_in bits y ≡ true → is_grouped given (windows given d) y ≡ true
    grouped y t = members.group_is.bricks y ∙ in_group y t

    below : (y : ℕ) → is_in bits y ≡ true → y < bricks_of given
    below y t = grouped_below given (windows given d) y (λ z le. (none z le).1) (grouped y t)

    -- a page of this round is the reply to what was asked in it
    page_told : (y : ℕ) (page : Page) → paged bits (replied d (subject given.op)) y ≡ Some page → Paged (bricks_of given) bits (windows given d) past y page
    page_told y page e = by (f y) refl
      where
        parts : (is_in bits y ≡ true) × (page_in (last_reply (windows given d y)) ≡ Some page)
        parts = paged_is (is_in bits y) (page_in (last_reply (windows given d y))) page e

        by : (a : Option Request) → f y ≡ a → Paged (bricks_of given) bits (windows given d) past y page
        by None n =
            let same : windows given d y ≡ windows given c y = subst (λ (a : Option Request). IsOver a (windows given c y) (windows given d y)) n (over_at (subject given.op) c f d r idle y) in
            absurd (none_some page (sym (ap (λ (es : List Exchange). page_in (last_reply es)) same ∙ h.silent y parts.0 n) ∙ parts.1))
        by (Some q) n =
            let w : IsOver (Some q) (windows given c y) (windows given d y) = subst (λ (a : Option Request). IsOver a (windows given c y) (windows given d y)) n (over_at (subject given.op) c f d r idle y) in
            let a = h.asks y q n in
            let reply : w.1 ≡ Some (NamesAre page) = page_of w.1 page (sym (ap (λ (es : List Exchange). page_in (last_reply es)) w.2) ∙ parts.1) in
            record {
              below = below y parts.0;
              among = parts.0;
              gfid = record { 0 = subject given.op };
              grant = a.0;
              number = w.0;
              exchanged = contains_last (windows given d y) (windows given c y) (record { number = w.0; request = q; reply = w.1 }) _ w.2 (λ i. record { number = w.0; request = a.1 i; reply = reply i });
            }

    so_far_now : SoFar (quorum_of given) (bricks_of given) bits (windows given d) past list
    so_far_now = so_far_grows (quorum_of given) (bricks_of given) bits (windows given c) (windows given d) past list (λ y e has. contains_over (f y) (windows given c y) (windows given d y) e (over_at (subject given.op) c f d r idle y) has) h.so_far

    few : bricks_of given ≤ 31
    few = let m = given.geometry.bricks in omega (arith, m)

    -- a brick that serves no more has replied no page last
    no_page : (name : List ℕ) (e : Account) → IsUnlocked (subject given.op) d e → (y : ℕ) → is_in bits y ≡ true → names_asks bits (Some name) d y ≡ None → page_in (last_reply (windows given e y)) ≡ None
    no_page name e u y t n = ap (λ (es : List Exchange). page_in (last_reply es)) (u.window y) ∙ by_serving (serving (at e (subject given.op) y)) refl
      where
        failed : serving (at e (subject given.op) y) ≡ None → failed_none is_any (windows given d y) ≡ false
        failed s = sym (ap (failed_none is_any) (u.window y)) ∙ fails (at e (subject given.op) y) ((members_unlocked given h.here.0 3 d e u members).locked y (in_group y t)) s

        by_asked : failed_none is_any (windows given d y) ≡ false → (a : Option Request) → f y ≡ a → page_in (last_reply (windows given d y)) ≡ None
        by_asked bad None a =
            let same : windows given d y ≡ windows given c y = subst (λ (a : Option Request). IsOver a (windows given c y) (windows given d y)) a (over_at (subject given.op) c f d r idle y) in
            ap (λ (es : List Exchange). page_in (last_reply es)) same ∙ h.silent y t a
        by_asked bad (Some q) a = ap (λ (es : List Exchange). page_in (last_reply es)) w.2 ∙ by_reply (page_in w.1) refl
          where
            w : IsOver (Some q) (windows given c y) (windows given d y)
            w = subst (λ (a : Option Request). IsOver a (windows given c y) (windows given d y)) a (over_at (subject given.op) c f d r idle y)

            served : (o : Option ℕ) → serving (at c (subject given.op) y) ≡ o → failed_none is_any (windows given c y) ≡ true
            served None s = absurd (none_some q (sym (h.here.3.unasked y s) ∙ a))
            served (Some i) s = (serving_is (at c (subject given.op) y) i s).0

            by_reply : (o : Option Page) → page_in w.1 ≡ o → page_in w.1 ≡ None
            by_reply None v = v
            by_reply (Some page) v =
                let done : is_done w.1 ≡ true = ap is_done (page_of w.1 page v) in
                let well : failed_none is_any (windows given d y) ≡ true = ap (failed_none is_any) w.2 ∙ rw done (served (serving (at c (subject given.op) y)) refl) in
                absurd (true_false (failed_none is_any (windows given d y)) well bad)

        by_serving : (o : Option ℕ) → serving (at e (subject given.op) y) ≡ o → page_in (last_reply (windows given d y)) ≡ None
        by_serving None s = by_asked (failed s) (f y) refl
        by_serving (Some i) s =
            let hp = paging_again given h.here.0 c f d h.here.3 r idle none (Some name) e dg u in
            let a = hp.asked y i (in_group y t) (below y t) s in
            absurd (none_some a.0 (sym n ∙ (ap (λ (b : ℕ). names_asks b (Some name) d y) (sym h.here.1) ∙ a.1)))

    follows_here : (next : Next ReaddirStage) → ReaddirFollows (Names bits past list) d next → PageFollows (quorum_of given) bits past list (paged bits (replied d (subject given.op))) next
    follows_here next follows = subst (λ (v : Given). PageFollows (quorum_of v) bits past list (paged bits (replied d (subject v.op))) next) dg follows

    names_goes : (q : ReaddirStage) (e : Account) → PageFollows (quorum_of given) bits past list (paged bits (replied d (subject given.op))) (Go q) → IsUnlocked (subject given.op) d e → HereListing given q e (readdir_asks q d)
    names_goes q e (inl (short, is)) u = absurd (go_say q (NoQuorum NamesPhase (count_paged (paged bits (replied d (subject given.op))))) is)
    names_goes q e (inr (enough, upto, part, told, parts, is)) u = by upto refl is
      where
        by : (o : Option (List ℕ)) → upto ≡ o → Go q ≡ goes_on bits o (list ++ part) → HereListing given q e (readdir_asks q d)
        by None at_end i = absurd (go_say q (NamesOf (list ++ part)) i)
        by (Some name) to i = subst (λ (z : ReaddirStage). HereListing given z e (readdir_asks z d)) (sym (go_same q (Names bits (Some name) (list ++ part)) i)) (record {
          here = (h.here.0, h.here.1, h.here.2, subst (λ (b : ℕ). HerePaging given h.here.0 e (names_asks b (Some name) d)) h.here.1 (paging_again given h.here.0 c f d h.here.3 r idle none (Some name) e dg u));
          asks = asks_are bits (Some name) given d dg;
          silent = no_page name e u;
          so_far = unlocked given d e u (λ w. SoFar (quorum_of given) (bricks_of given) bits w (Some name) (list ++ part))
              (round_over (quorum_of given) (bricks_of given) bits (windows given d) past upto list part (paged bits (replied d (subject given.op))) few so_far_now page_told enough told parts name to);
        })

    names_come : (answer : Answer) → PageFollows (quorum_of given) bits past list (paged bits (replied d (subject given.op))) (Say answer) → NamesCome given (windows given d) answer
    names_come answer (inl (short, is)) = λ all e. none_given answer (Say (NoQuorum NamesPhase (count_paged (paged bits (replied d (subject given.op)))))) all is refl e
    names_come answer (inr (enough, upto, part, told, parts, is)) = by upto refl is
      where
        gives : upto ≡ None → GivesNames given (windows given d) (list ++ part)
        gives at_end = record {
          head = h.here.0.head;
          head_is = members.group_is.head;
          kind = h.here.2;
          rises = λ rise. round_rises (quorum_of given) (bricks_of given) bits (windows given d) past upto list part (paged bits (replied d (subject given.op))) few so_far_now page_told enough told parts
              (λ y gfid grant after page number less t has. rise y gfid grant after page number less (grouped y t) has);
          each = λ name.
              (let s = round_ends (quorum_of given) (bricks_of given) bits (windows given d) past upto list part (paged bits (replied d (subject given.op))) few so_far_now page_told enough told parts at_end name in
              record {
                said = s.said;
                told = λ y value v. (let k = s.told y value v in record {
                  below = k.below;
                  grouped = grouped y k.among;
                  gfid = k.gfid;
                  grant = k.grant;
                  after = k.after;
                  page = k.page;
                  number = k.number;
                  exchanged = k.exchanged;
                  inside = k.inside;
                  value_is = k.value_is;
                });
                enough = s.enough;
                entry = s.entry_is;
              });
        }

        by : (o : Option (List ℕ)) → upto ≡ o → Say answer ≡ goes_on bits o (list ++ part) → NamesCome given (windows given d) answer
        by None at_end i = λ all e. subst (GivesNames given (windows given d)) (same_list (list ++ part) all (sym (say_same {P = ReaddirStage} answer (NamesOf (list ++ part)) (Say answer) refl i) ∙ e)) (gives at_end)
        by (Some name) to i = absurd (say_go (Names bits (Some name) (list ++ part)) answer i)

-- ## The table

pub listing_kept : (x : Ctx) → IsKept x readdir_table DuringReaddir HereListing
listing_kept x = record {
  begins = λ given q of s. subst (λ (z : ReaddirStage). HereListing given z (opened given) (readdir_asks z (opened given))) (sym (go_same q (OpensAt (Locking 0)) s.1)) (opening_here Shared given of.kept);
  goes = λ given p q c f d e isin none dur here r idle quiet follows isin' u. go given p q c f d e isin none dur here r idle quiet follows isin' u;
  again = λ given p c f d t. absurd (let v : false ≡ true = t in cc);
}
  where
    go : (given : Given) (p q : ReaddirStage) (c : Account) (f : Asks) (d e : Account) → IsIn x given c → NonePast (subject given.op) (bricks_of given) d → DuringReaddir p c f → HereListing given p c f → IsRound (subject given.op) c f d → IsIdle d
        → Rattle.ec_txn.specs.Tables.asked_again readdir_table p d ≡ [] → ReaddirFollows p d (Go q) → IsIn x given e → IsUnlocked (subject given.op) d e → HereListing given q e (readdir_asks q d)
    go given (OpensAt (Locking brick)) q c f d e isin none dur here r idle quiet follows isin' u = lock_goes OpensAt Shared ReaddirJudges given brick c f d isin.given_is (r.given ∙ isin.given_is) dur.1 here r idle readdir_asks HereListing (λ o a k i. i) (λ o a. refl) q e follows u
    go given (OpensAt Query) q c f d e isin none dur here r idle quiet (grouped, comes, is) isin' u =
        query_goes x given c f d isin none r idle q e grouped here dur.1 (judged given d (r.given ∙ isin.given_is) (queried Shared given c f d isin.given_is dur.1 here r idle none) (λ answer. ⊥) grouped comes) is u
        ((readdir_kept x).goes given (OpensAt Query) q c f d e isin none dur here r idle quiet (grouped, comes, is) isin' u)
    go given (Names bits past list) q c f d e isin none dur here r idle quiet follows isin' u =
        names_goes x given c f d isin none r idle bits past list here q e (follows_here x given c f d isin none r idle bits past list here (Go q) follows) u

pub readdir_comes : (x : Ctx) → TellsOf x readdir_table DuringReaddir HereListing NamesCome
readdir_comes x = record {
  first = λ given answer of s. absurd (say_go (OpensAt (Locking 0)) answer s.1);
  last = λ given p answer c f d isin none dur here r idle quiet follows. last given p answer c f d isin none here r idle follows;
}
  where
    judged_none : (grouped : Grouped) → gives_names (readdir_next grouped) ≡ false
    judged_none (Found group) = by group.head.kind
      where
        by : (kind : Kind) → gives_names (of_kind kind group.bricks) ≡ false
        by File = refl
        by Dir = refl
    judged_none (Gone bricks) = refl
    judged_none (Fewer most) = refl

    last : (given : Given) (p : ReaddirStage) (answer : Answer) (c : Account) (f : Asks) (d : Account) → IsIn x given c → NonePast (subject given.op) (bricks_of given) d → HereListing given p c f → IsRound (subject given.op) c f d → IsIdle d
        → ReaddirFollows p d (Say answer) → NamesCome given (windows given d) answer
    last given (OpensAt (Locking brick)) answer c f d isin none here r idle follows = λ list e. none_given answer _ list follows
        (when_neither (nat_lt (brick + 1) (bricks_of d.given)) (Go (OpensAt (Locking (brick + 1)))) _ refl (when_neither (nat_le (quorum_of d.given) (count_locks d (subject d.given.op))) (Go (OpensAt Query)) (Say (NoQuorum LockPhase (count_locks d (subject d.given.op)))) refl refl)) e
    last given (OpensAt Query) answer c f d isin none here r idle (grouped, comes, is) = λ list e. none_given answer (readdir_next grouped) list is (judged_none grouped) e
    last given (Names bits past list) answer c f d isin none here r idle follows = names_come x given c f d isin none r idle bits past list here answer (follows_here x given c f d isin none r idle bits past list here (Say answer) follows)

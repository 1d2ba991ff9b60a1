-- What a readdir has listed so far, and what the pages of a round add.
use Rattle.std.proofs.Common.{◌≡◌, ◌⊎◌, inl, inr, ℕ, suc, ◌+◌, ◌<◌, ◌≤◌, ◌&&◌, Bool, true, false, cond, is_some, refl, sym, ◌∙◌, ap, subst, arith, List, [], ◌∷◌, ◌++◌, length, Option, Some, None}
use Rattle.std.specs.List.{Contains}
use Rattle.std.proofs.Math.Path.{fun_ext}
use Rattle.std.proofs.lemmas.Bool.{and_parts}
use Rattle.ec_attr.specs.Bricks.{count_below, is_in}
use Rattle.ec_attr.specs.declared.gfid.Gfid.{Gfid}
use Rattle.ec_conduct.specs.Account.{Exchange}
use Rattle.ec_entry.specs.Named.{Value, count_said}
use Rattle.ec_entry.specs.Paging.{Entries, Entry, IsEntry, IsPart, IsUpto, count_paged, end_in, entry_at, full_end, said_in, said_of}
use Rattle.ec_store.specs.Pages.{Page, end_of, is_rising}
use Rattle.ec_store.specs.Records.{is_inside, is_past, is_within, listed}
use Rattle.ec_wire.specs.declared.reply.Reply.TheVariants.{Names as NamesAre}
use Rattle.ec_wire.specs.declared.request.Request.TheVariants.{NamesAfter}
use Rattle.ec_law_causes.specs.Counted.{Windows}
use Rattle.ec_law_causes.proofs.Rounds.{IsOver}
use Rattle.ec_law_replies.proofs.Order.{end_past, entry_first, entry_second, not_within, past_past, rising_on, within_more, within_of}

-- ## Windows grow

one_more : (es : List Exchange) (k e : Exchange) → Contains es e → Contains (k ∷ es) e
one_more es k e (i, less, is) = (suc i, omega (arith, less), is)

pub contains_over : (o : Option Rattle.ec_wire.specs.declared.request.Request.Request) (old new : List Exchange) (e : Exchange) → IsOver o old new → Contains old e → Contains new e
contains_over None old new e w h = subst (λ (es : List Exchange). Contains es e) (sym w) h
contains_over (Some r) old new e w h = subst (λ (es : List Exchange). Contains es e) (sym w.2) (one_more old (record { number = w.0; request = r; reply = w.1 }) e h)

abbrev pub Grow : Windows → Windows → Type 0
Grow v w = (x : ℕ) (e : Exchange) → Contains (v x) e → Contains (w x) e

-- ## What was told

-- a brick of the set replied a page of names that tells of this name, and this is what it tells
pub record Told (n bits : ℕ) (w : Windows) (x : ℕ) (name : List ℕ) (value : Value) : Type 0 where
  pub below : x < n
  pub among : is_in bits x ≡ true
  pub gfid : Gfid
  pub grant : ℕ
  pub after : Option (List ℕ)
  pub page : Page
  pub number : ℕ
  pub exchanged : Contains (w x) (record { number = number; request = NamesAfter gfid grant after; reply = Some (NamesAre page) })
  pub inside : is_inside after (end_in (Some page)) name ≡ true
  pub value_is : value ≡ listed page name

-- of a name this is listed, as k bricks told it or as they didn't
pub record Settled (k n bits : ℕ) (w : Windows) (name : List ℕ) (entry : Option Entry) : Type 0 where
  pub said : ℕ → Option Value
  pub told : (x : ℕ) (value : Value) → said x ≡ Some value → Told n bits w x name value
  pub enough : k ≤ count_said said
  pub entry_is : IsEntry k said entry

-- each page is in order, past the name after which it was asked for
abbrev pub Rise : ℕ → ℕ → Windows → Type 0
Rise n bits w = (x : ℕ) (gfid : Gfid) (grant : ℕ) (after : Option (List ℕ)) (page : Page) (number : ℕ) → x < n → is_in bits x ≡ true
    → Contains (w x) (record { number = number; request = NamesAfter gfid grant after; reply = Some (NamesAre page) }) → is_rising after page ≡ true

-- What is listed is settled, and so is what is left out of it, up to the name that the next round begins past.
pub record SoFar (k n bits : ℕ) (w : Windows) (past : Option (List ℕ)) (list : Entries) : Type 0 where
  pub listed : (name : List ℕ) (e : Entry) → entry_at list name ≡ Some e → Settled k n bits w name (Some e)
  pub left_out : (name : List ℕ) → is_past past name ≡ false → entry_at list name ≡ None → Settled k n bits w name None
  pub order : Rise n bits w → (is_rising None list ≡ true) × ((name : List ℕ) → is_past past name ≡ true → entry_at list name ≡ None)

no_entry : (e : Entry) → ◌≡◌ {A = Option Entry} None (Some e) → ⊥
no_entry e v = cc

pub so_far_none : (k n bits : ℕ) (w : Windows) → SoFar k n bits w None []
so_far_none k n bits w = record {
  listed = λ name e is. absurd (no_entry e is);
  left_out = λ name p is. absurd (let v : true ≡ false = p in cc);
  order = λ rise. (refl, λ name p. refl);
}

settled_grows : (k n bits : ℕ) (v w : Windows) (name : List ℕ) (entry : Option Entry) → Grow v w → Settled k n bits v name entry → Settled k n bits w name entry
settled_grows k n bits v w name entry grow s = record {
  said = s.said;
  told = λ x value e. (let t = s.told x value e in record {
    below = t.below;
    among = t.among;
    gfid = t.gfid;
    grant = t.grant;
    after = t.after;
    page = t.page;
    number = t.number;
    exchanged = grow x _ t.exchanged;
    inside = t.inside;
    value_is = t.value_is;
  });
  enough = s.enough;
  entry_is = s.entry_is;
}

pub so_far_grows : (k n bits : ℕ) (v w : Windows) (past : Option (List ℕ)) (list : Entries) → Grow v w → SoFar k n bits v past list → SoFar k n bits w past list
so_far_grows k n bits v w past list grow s = record {
  listed = λ name e is. settled_grows k n bits v w name (Some e) grow (s.listed name e is);
  left_out = λ name p is. settled_grows k n bits v w name None grow (s.left_out name p is);
  order = λ rise. s.order (λ x gfid grant after page number less t has. rise x gfid grant after page number less t (grow x _ has));
}

-- ## A round

-- a brick replied this page to a request of the round
pub record Paged (n bits : ℕ) (w : Windows) (past : Option (List ℕ)) (x : ℕ) (page : Page) : Type 0 where
  pub below : x < n
  pub among : is_in bits x ≡ true
  pub gfid : Gfid
  pub grant : ℕ
  pub number : ℕ
  pub exchanged : Contains (w x) (record { number = number; request = NamesAfter gfid grant past; reply = Some (NamesAre page) })

none_page : (page : Page) → ◌≡◌ {A = Option Page} None (Some page) → ⊥
none_page page e = cc

none_value : (value : Value) → ◌≡◌ {A = Option Value} None (Some value) → ⊥
none_value value e = cc

some_value : (a b : Value) → ◌≡◌ {A = Option Value} (Some a) (Some b) → a ≡ b
some_value a b e = cc

some_name : (a b : List ℕ) → Some a ≡ Some b → a ≡ b
some_name a b e = cc

none_name : (a : List ℕ) → None ≡ Some a → ⊥
none_name a e = cc

same_entry : (a b : Entry) → ◌≡◌ {A = Option Entry} (Some a) (Some b) → a ≡ b
same_entry a b e = cc

-- what a page that was replied says
said_page : (name : List ℕ) (o : Option Page) (value : Value) → said_in name o ≡ Some value → (page : Page) × (o ≡ Some page) × (value ≡ listed page name)
said_page name None value e = absurd (none_value value e)
said_page name (Some page) value e = (page, refl, some_value value (listed page name) (sym e))

-- a round tells no further than any full page
within_page : (pages : ℕ → Option Page) (to : Option (List ℕ)) (x : ℕ) (page : Page) (name : List ℕ) → IsUpto pages to → x < 31 → pages x ≡ Some page → is_within to name ≡ true → is_within (full_end page) name ≡ true
within_page pages to x page name least less is within = by (full_end page) refl to least within
  where
    by : (o : Option (List ℕ)) → full_end page ≡ o → (to : Option (List ℕ)) → IsUpto pages to → is_within to name ≡ true → is_within o name ≡ true
    by None e to least within = refl
    by (Some m) e None least within = absurd (none_name m (sym (least x less) ∙ (ap end_in is ∙ e)))
    by (Some m) e (Some u) least within = within_more name u m within (least.1 x m less (ap end_in is ∙ e))

full_is : (t : Bool) (o : Option (List ℕ)) (u : List ℕ) → cond t o None ≡ Some u → o ≡ Some u
full_is true o u e = e
full_is false o u e = absurd (none_name u e)

module _ (k n bits : ℕ) (w : Windows) (past to : Option (List ℕ)) (list part : Entries) (pages : ℕ → Option Page) (few : n ≤ 31) (so_far : SoFar k n bits w past list)
    (paged : (x : ℕ) (page : Page) → pages x ≡ Some page → Paged n bits w past x page) (enough : k ≤ count_paged pages) (least : IsUpto pages to) (is_part : IsPart k pages past to part) where
  count_same : (name : List ℕ) → count_said (said_of pages name) ≡ count_paged pages
  count_same name = ap (count_below 31) (fun_ext (λ x. by (pages x)))
    where
      by : (o : Option Page) → is_some (said_in name o) ≡ is_some o
      by None = refl
      by (Some page) = refl

  -- a name inside the round is settled by its pages
  settled_now : (name : List ℕ) (entry : Option Entry) → is_inside past to name ≡ true → entry_at part name ≡ entry → Settled k n bits w name entry
  settled_now name entry inside is = record {
    said = said_of pages name;
    told = λ x value e. (let s = said_page name (pages x) value e in let p = paged x s.0 s.1 in let l = p.below in let v = and_parts (is_past past name) (is_within to name) inside in record {
      below = p.below;
      among = p.among;
      gfid = p.gfid;
      grant = p.grant;
      after = past;
      page = s.0;
      number = p.number;
      exchanged = p.exchanged;
      inside = and_both (is_past past name) (is_within (full_end s.0) name) v.0 (within_page pages to x s.0 name least (omega (arith, l, few)) s.1 v.1);
      value_is = s.2;
    });
    enough = (let s = count_same name in omega (arith, enough, s));
    entry_is = subst (IsEntry k (said_of pages name)) is (is_part.each name inside);
  }
    where
      and_both : (a b : Bool) → a ≡ true → b ≡ true → (a && b) ≡ true
      and_both true true e f = refl
      and_both true false e f = f
      and_both false b e f = e

  pub round_listed : (name : List ℕ) (e : Entry) → entry_at (list ++ part) name ≡ Some e → Settled k n bits w name (Some e)
  round_listed name e is = by (entry_at list name) refl
    where
      now : entry_at part name ≡ Some e → (t : Bool) → is_inside past to name ≡ t → Settled k n bits w name (Some e)
      now here true inside = settled_now name (Some e) inside here
      now here false outside = absurd (no_entry e (sym (is_part.none name outside) ∙ here))

      by : (o : Option Entry) → entry_at list name ≡ o → Settled k n bits w name (Some e)
      by (Some f) before = subst (λ (z : Entry). Settled k n bits w name (Some z)) (same_entry f e (sym (entry_first list part name f before) ∙ is)) (so_far.listed name f before)
      by None before = now (sym (entry_second list part name before) ∙ is) (is_inside past to name) refl

  pub round_left_out : (name : List ℕ) → is_within to name ≡ true → entry_at (list ++ part) name ≡ None → Settled k n bits w name None
  round_left_out name within is = by (entry_at list name) refl
    where
      none_entry : (e : Entry) → ◌≡◌ {A = Option Entry} (Some e) None → ⊥
      none_entry e v = cc

      and_is : (a b : Bool) → a ≡ true → b ≡ true → (a && b) ≡ true
      and_is true true e f = refl
      and_is true false e f = f
      and_is false b e f = e

      at_past : entry_at list name ≡ None → (t : Bool) → is_past past name ≡ t → Settled k n bits w name None
      at_past before true p = settled_now name None (and_is (is_past past name) (is_within to name) p within) (sym (entry_second list part name before) ∙ is)
      at_past before false p = so_far.left_out name p before

      by : (o : Option Entry) → entry_at list name ≡ o → Settled k n bits w name None
      by (Some f) before = absurd (none_entry f (sym (entry_first list part name f before) ∙ is))
      by None before = at_past before (is_past past name) refl

  -- ## In order

  pub round_rises : Rise n bits w → is_rising None (list ++ part) ≡ true
  round_rises rise = let o = so_far.order rise in rising_on None past list part o.0 (λ m p. refl) o.1 is_part.rises

  -- a round tells past where it began
  goes_past : (u : List ℕ) → to ≡ Some u → Rise n bits w → is_past past u ≡ true
  goes_past u e rise =
      let l = (subst (λ (o : Option (List ℕ)). IsUpto pages o) e least).0 in
      by l.0 (pages l.0) refl l.2
    where
      by : (x : ℕ) (o : Option Page) → pages x ≡ o → end_in o ≡ Some u → is_past past u ≡ true
      by x None is t = absurd (none_name u t)
      by x (Some page) is t =
          let p = paged x page is in
          end_past past page u (rise x p.gfid p.grant past page p.number p.below p.among p.exchanged) (full_is (Rattle.std.proofs.Common.nat_eq (length page) 64) (end_of None page) u t)

  pub round_open : (u : List ℕ) → to ≡ Some u → Rise n bits w → (name : List ℕ) → is_past (Some u) name ≡ true → entry_at (list ++ part) name ≡ None
  round_open u e rise name p =
      let before = (so_far.order rise).1 name (past_past past u name (goes_past u e rise) p) in
      entry_second list part name before ∙ is_part.none name (and_false (is_past past name) (is_within to name) (ap (λ (o : Option (List ℕ)). is_within o name) e ∙ not_within u name p))
    where
      and_false : (a b : Bool) → b ≡ false → (a && b) ≡ false
      and_false true b f = f
      and_false false b f = refl

  -- the next round begins past where this one tells to
  pub round_over : (u : List ℕ) → to ≡ Some u → SoFar k n bits w (Some u) (list ++ part)
  round_over u e = record {
    listed = round_listed;
    left_out = λ name p is. round_left_out name (ap (λ (o : Option (List ℕ)). is_within o name) e ∙ within_of u name p) is;
    order = λ rise. (round_rises rise, round_open u e rise);
  }

  -- a round that tells to the end settles each name
  pub round_ends : to ≡ None → (name : List ℕ) → Settled k n bits w name (entry_at (list ++ part) name)
  round_ends e name = by (entry_at (list ++ part) name) refl
    where
      by : (o : Option Entry) → entry_at (list ++ part) name ≡ o → Settled k n bits w name o
      by None is = round_left_out name (ap (λ (o : Option (List ℕ)). is_within o name) e) is
      by (Some f) is = round_listed name f is

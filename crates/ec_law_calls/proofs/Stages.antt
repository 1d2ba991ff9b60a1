-- What holds of an account in a stage of a table that goes in order, and before a stage sends what it asks.
use Rattle.std.proofs.Common.{◌≡◌, ℕ, nat_le, nat_lt, Bool, true, false, refl, sym, ◌∙◌, ap, subst, arith, List, Some}
use Rattle.std.proofs.lemmas.Bool.Decides.{nat_tests}
use Rattle.ec_attr.specs.declared.gfid.Gfid.{Gfid}
use Rattle.ec_attr.specs.declared.kind.Domain.TheVariants.{Inode}
use Rattle.ec_attr.specs.declared.kind.LockKind.{LockKind}
use Rattle.ec_attr.specs.declared.kind.LockKind.TheVariants.{Shared, Exclusive}
use Rattle.ec_conduct.specs.Account.{Account, after}
use Rattle.ec_conduct.specs.Conduct.{is_release}
use Rattle.ec_conduct.specs.Done.{is_lock, is_make, is_post, is_query}
use Rattle.ec_conduct.specs.Own.{Own}
use Rattle.ec_conduct.specs.Table.{IsFromOutside, Send, sent_all}
use Rattle.ec_wire.specs.declared.request.Request.{Request}
use Rattle.ec_wire.specs.declared.request.Request.TheVariants.{Ask, Release, Query, PreOp, PostOp, Make}
use Rattle.ec_txn.specs.Rounds.{Asks, round}
use Rattle.ec_law_turns.specs.Orderly.{InOrder, is_shared}
use Rattle.ec_law_calls.specs.Parts.{Fits, IsNext, Part, Locks, Heads, Works, Makes, Names, Posts, Ends, is_work}
use Rattle.ec_law_calls.proofs.Clean.{Clean, Each, Spares, outside_clean, sends_clean}
use Rattle.ec_law_calls.proofs.Sends.{AllInOrder, IsRelease, each_round, each_weaker, round_in_order}
use Rattle.ec_law_calls.proofs.Windows.{IsNoQuery, Unqueried, outside_unqueried, sends_unqueried}

-- ## Parts

-- in this part no brick is asked for its lock from this one on, none was sent a PostOp, or a Make, and no Query was sent
abbrev pub is_locked : Part → ℕ → Bool
is_locked (Locks brick) b = nat_le b brick
is_locked p b = true

abbrev pub is_posted : Part → Bool
is_posted Posts = true
is_posted Ends = true
is_posted p = false

abbrev pub is_making : Part → Bool
is_making (Locks brick) = false
is_making Heads = false
is_making Works = false
is_making p = true

abbrev pub is_locking : Part → Bool
is_locking (Locks brick) = true
is_locking p = false

-- and the same before the part begins
abbrev pub was_locked : Part → ℕ → Bool
was_locked (Locks brick) b = nat_lt b brick
was_locked p b = true

abbrev pub was_posted : Part → Bool
was_posted Ends = true
was_posted p = false

abbrev pub was_making : Part → Bool
was_making (Locks brick) = false
was_making Heads = false
was_making Works = false
was_making Makes = false
was_making p = true

abbrev pub was_locking : Part → Bool
was_locking (Locks brick) = true
was_locking Heads = true
was_locking p = false

-- What holds of the account in a part, or before it.
pub record Holds (locked : ℕ → Bool) (posted making queried : Bool) (kind : LockKind) (c : Account) : Type 0 where
  pub unlocked : (b : ℕ) → locked b ≡ false → Clean is_lock c b
  pub unposted : (b : ℕ) → posted ≡ false → Clean is_post c b
  pub unmade : (b : ℕ) → making ≡ false → Clean is_make c b
  pub unqueried : queried ≡ true → Unqueried c
  pub alone : (b : ℕ) → kind ≡ Exclusive → Clean is_shared c b

abbrev pub In : LockKind → Part → Account → Type 0
In kind p c = Holds (is_locked p) (is_posted p) (is_making p) (is_locking p) kind c

abbrev pub Before : LockKind → Part → Account → Type 0
Before kind p c = Holds (was_locked p) (was_posted p) (was_making p) (is_locking p) kind c

-- ## What is heard or given up, and what is released

pub holds_outside : (locked : ℕ → Bool) (posted making queried : Bool) (kind : LockKind) (c : Account) (e : Own) → IsFromOutside e → Holds locked posted making queried kind c → Holds locked posted making queried kind (after c e)
holds_outside locked posted making queried kind c e out h = record {
  unlocked = λ b t. outside_clean is_lock b c e out (h.unlocked b t);
  unposted = λ b t. outside_clean is_post b c e out (h.unposted b t);
  unmade = λ b t. outside_clean is_make b c e out (h.unmade b t);
  unqueried = λ t. outside_unqueried c e out (h.unqueried t);
  alone = λ b t. outside_clean is_shared b c e out (h.alone b t);
}

no_lock : (x : ℕ) (r : Request) → is_release r ≡ true → is_lock r ≡ false
no_lock x (Release g grant) e = refl
no_lock x r e = absurd (cc)

no_post : (x : ℕ) (r : Request) → is_release r ≡ true → is_post r ≡ false
no_post x (Release g grant) e = refl
no_post x r e = absurd (cc)

no_make : (x : ℕ) (r : Request) → is_release r ≡ true → is_make r ≡ false
no_make x (Release g grant) e = refl
no_make x r e = absurd (cc)

no_query : (x : ℕ) (r : Request) → is_release r ≡ true → is_query r ≡ false
no_query x (Release g grant) e = refl
no_query x r e = absurd (cc)

none_shared : (x : ℕ) (r : Request) → is_release r ≡ true → is_shared r ≡ false
none_shared x (Release g grant) e = refl
none_shared x r e = absurd (cc)

pub holds_released : (locked : ℕ → Bool) (posted making queried : Bool) (kind : LockKind) (c : Account) (i : ℕ) (ss : List Send) → Each IsRelease ss → Holds locked posted making queried kind c → Holds locked posted making queried kind (sent_all c i ss)
holds_released locked posted making queried kind c i ss all h = record {
  unlocked = λ b t. sends_clean is_lock b c i ss (spared is_lock no_lock b) (h.unlocked b t);
  unposted = λ b t. sends_clean is_post b c i ss (spared is_post no_post b) (h.unposted b t);
  unmade = λ b t. sends_clean is_make b c i ss (spared is_make no_make b) (h.unmade b t);
  unqueried = λ t. sends_unqueried c i ss (each_weaker IsRelease IsNoQuery no_query ss all) (h.unqueried t);
  alone = λ b t. sends_clean is_shared b c i ss (spared is_shared none_shared b) (h.alone b t);
}
  where
    spared : (test : Request → Bool) → ((x : ℕ) (r : Request) → is_release r ≡ true → test r ≡ false) → (b : ℕ) → Each (Spares test b) ss
    spared test not_so b = each_weaker IsRelease (Spares test b) (λ x r e same. not_so x r e) ss all

-- ## From one part to the next

pub comes : (kind : LockKind) (p q : Part) (c : Account) → IsNext p q → In kind p c → Before kind q c
comes kind (Locks b) (Locks d) c n h = record {
  unlocked = λ x t. h.unlocked x (later x t);
  unposted = h.unposted;
  unmade = h.unmade;
  unqueried = h.unqueried;
  alone = h.alone;
}
  where
    later : (x : ℕ) → nat_lt x d ≡ false → nat_le x b ≡ false
    later x t = grind (arith, nat_tests)
comes kind (Locks b) Heads c n h = record { unlocked = λ x t. absurd (cc); unposted = h.unposted; unmade = h.unmade; unqueried = λ t. absurd (cc); alone = h.alone }
comes kind Heads Works c n h = record { unlocked = h.unlocked; unposted = h.unposted; unmade = h.unmade; unqueried = h.unqueried; alone = h.alone }
comes kind Works Works c n h = record { unlocked = h.unlocked; unposted = h.unposted; unmade = h.unmade; unqueried = h.unqueried; alone = h.alone }
comes kind Works Makes c n h = record { unlocked = h.unlocked; unposted = h.unposted; unmade = h.unmade; unqueried = h.unqueried; alone = h.alone }
comes kind Works Posts c n h = record { unlocked = h.unlocked; unposted = h.unposted; unmade = λ x t. absurd (cc); unqueried = h.unqueried; alone = h.alone }
comes kind Makes Names c n h = record { unlocked = h.unlocked; unposted = h.unposted; unmade = h.unmade; unqueried = h.unqueried; alone = h.alone }
comes kind Names Posts c n h = record { unlocked = h.unlocked; unposted = h.unposted; unmade = h.unmade; unqueried = h.unqueried; alone = h.alone }
comes kind Posts Ends c n h = record { unlocked = h.unlocked; unposted = h.unposted; unmade = h.unmade; unqueried = h.unqueried; alone = h.alone }
comes kind Ends Ends c n h = record { unlocked = h.unlocked; unposted = h.unposted; unmade = h.unmade; unqueried = h.unqueried; alone = h.alone }
comes kind p q c n h = absurd n

-- ## What a part asks

-- what a request of a part to a brick needs, to go by the rules of order
pub record MayGo (kind : LockKind) (p : Part) (c : Account) (x : ℕ) : Type 0 where
  pub lock : p ≡ Locks x → Clean is_lock c x × Unqueried c
  pub make : p ≡ Makes → Clean is_make c x
  pub post : p ≡ Posts → Clean is_post c x
  pub alone : (y : ℕ) → kind ≡ Exclusive → Clean is_shared c y

worked : (kind : LockKind) (c : Account) (x : ℕ) (r : Request) → is_work kind r ≡ true → ((y : ℕ) → kind ≡ Exclusive → Clean is_shared c y) → InOrder c x r
worked kind c x (Ask g domain k) w h = absurd (cc)
worked Shared c x (PreOp g grant version dirty) w h = absurd (cc)
worked Exclusive c x (PreOp g grant version dirty) w h = λ y lt. (h y refl).window g.0
worked kind c x (PostOp g grant old new size attr) w h = absurd (cc)
worked kind c x (Make g grant child) w h = absurd (cc)
worked kind c x r w h = tt

queried : (c : Account) (x : ℕ) (r : Request) → is_query r ≡ true → InOrder c x r
queried c x (Query g grant) e = tt
queried c x r e = absurd (cc)

made : (c : Account) (x : ℕ) (r : Request) → is_make r ≡ true → Clean is_make c x → InOrder c x r
made c x (Make g grant child) e k = k.window g.0
made c x r e k = absurd (cc)

posted : (c : Account) (x : ℕ) (r : Request) → is_post r ≡ true → Clean is_post c x → InOrder c x r
posted c x (PostOp g grant old new size attr) e k = k.window g.0
posted c x r e k = absurd (cc)

in_order : (kind : LockKind) (p : Part) (c : Account) (x : ℕ) (r : Request) → Fits kind p x r → MayGo kind p c x → InOrder c x r
in_order kind (Locks brick) c x r (e, g, is) m = let k = m.lock (ap (λ (b : ℕ). Locks b) (sym e)) in subst (InOrder c x) (sym is) (k.0.window g.0, λ makes. k.1 g.0)
in_order kind Heads c x r f m = queried c x r f
in_order kind Works c x r f m = worked kind c x r f m.alone
in_order kind Makes c x r f m = made c x r f (m.make refl)
in_order kind Names c x r f m = worked kind c x r f m.alone
in_order kind Posts c x r f m = posted c x r f (m.post refl)
in_order kind Ends c x r f m = worked kind c x r f m.alone

-- ## What it doesn't ask

-- which test a kind of request doesn't pass
query_is : (test : Request → Bool) → ((g : Gfid) (grant : ℕ) → test (Query g grant) ≡ false) → (r : Request) → is_query r ≡ true → test r ≡ false
query_is test h (Query g grant) e = h g grant
query_is test h r e = absurd (cc)

work_no_post : (kind : LockKind) (r : Request) → is_work kind r ≡ true → is_post r ≡ false
work_no_post kind (PostOp g grant old new size attr) e = absurd (cc)
work_no_post kind r e = refl

work_no_make : (kind : LockKind) (r : Request) → is_work kind r ≡ true → is_make r ≡ false
work_no_make kind (Make g grant child) e = absurd (cc)
work_no_make kind r e = refl

work_no_shared : (kind : LockKind) (r : Request) → is_work kind r ≡ true → is_shared r ≡ false
work_no_shared kind (Ask g domain k) e = absurd (cc)
work_no_shared kind r e = refl

make_no_post : (r : Request) → is_make r ≡ true → is_post r ≡ false
make_no_post (Make g grant child) e = refl
make_no_post r e = absurd (cc)

make_no_shared : (r : Request) → is_make r ≡ true → is_shared r ≡ false
make_no_shared (Make g grant child) e = refl
make_no_shared r e = absurd (cc)

post_no_shared : (r : Request) → is_post r ≡ true → is_shared r ≡ false
post_no_shared (PostOp g grant old new size attr) e = refl
post_no_shared r e = absurd (cc)

fits_lock : (kind : LockKind) (p : Part) (x : ℕ) (r : Request) → Fits kind p x r → (b : ℕ) → is_locked p b ≡ false → x ≡ b → is_lock r ≡ false
fits_lock kind (Locks brick) x r f b t e = absurd (at_least b brick (sym e ∙ f.0) t)
  where
    at_least : (m n : ℕ) → m ≡ n → nat_le m n ≡ false → ⊥
    at_least m n e t = let u : nat_le m n ≡ true = grind (arith, nat_tests) in absurd (cc)
fits_lock kind p x r f b t e = absurd (cc)

fits_post : (kind : LockKind) (p : Part) (x : ℕ) (r : Request) → Fits kind p x r → is_posted p ≡ false → is_post r ≡ false
fits_post kind (Locks brick) x r f t = ap is_post f.2
fits_post kind Heads x r f t = query_is is_post (λ g grant. refl) r f
fits_post kind Works x r f t = work_no_post kind r f
fits_post kind Makes x r f t = make_no_post r f
fits_post kind Names x r f t = work_no_post kind r f
fits_post kind p x r f t = absurd (cc)

fits_make : (kind : LockKind) (p : Part) (x : ℕ) (r : Request) → Fits kind p x r → is_making p ≡ false → is_make r ≡ false
fits_make kind (Locks brick) x r f t = ap is_make f.2
fits_make kind Heads x r f t = query_is is_make (λ g grant. refl) r f
fits_make kind Works x r f t = work_no_make kind r f
fits_make kind p x r f t = absurd (cc)

fits_query : (kind : LockKind) (p : Part) (x : ℕ) (r : Request) → Fits kind p x r → is_locking p ≡ true → is_query r ≡ false
fits_query kind (Locks brick) x r f t = ap is_query f.2
fits_query kind p x r f t = absurd (cc)

fits_alone : (kind : LockKind) (p : Part) (x : ℕ) (r : Request) → Fits kind p x r → kind ≡ Exclusive → is_shared r ≡ false
fits_alone kind (Locks brick) x r f e = ap is_shared f.2 ∙ ap (λ (k : LockKind). is_shared (Ask f.1 Inode k)) e
fits_alone kind Heads x r f e = query_is is_shared (λ g grant. refl) r f
fits_alone kind Works x r f e = work_no_shared kind r f
fits_alone kind Makes x r f e = make_no_shared r f
fits_alone kind Names x r f e = work_no_shared kind r f
fits_alone kind Posts x r f e = post_no_shared r f
fits_alone kind Ends x r f e = work_no_shared kind r f

-- ## A round of a part

-- before a part the locks that it asks for are free
free : (p : Part) (b : ℕ) → is_locked p b ≡ false → was_locked p b ≡ false
free (Locks brick) b t = below b brick t
  where
    below : (m n : ℕ) → nat_le m n ≡ false → nat_lt m n ≡ false
    below m n t = grind (arith, nat_tests)
free p b t = absurd (cc)

not_posted : (p : Part) → is_posted p ≡ false → was_posted p ≡ false
not_posted Posts t = absurd (cc)
not_posted Ends t = absurd (cc)
not_posted p t = refl

not_making : (p : Part) → is_making p ≡ false → was_making p ≡ false
not_making (Locks brick) t = refl
not_making Heads t = refl
not_making Works t = refl
not_making p t = absurd (cc)

own_lock : (x : ℕ) → nat_lt x x ≡ false
own_lock x = grind (arith, nat_tests)

module _ (kind : LockKind) (p : Part) (c : Account) (i : ℕ) (f : Asks) (fits : (x : ℕ) (r : Request) → f x ≡ Some r → Fits kind p x r) (h : Before kind p c) where
  -- what was sent to the bricks below another leaves that one clean
  below_clean : (test : Request → Bool) (x : ℕ) → Clean test c x → Clean test (sent_all c i (round x f)) x
  below_clean test x k = sends_clean test x c i (round x f) (each_round (Spares test x) x f (λ y r lt e same. absurd (omega (arith, lt, same)))) k

  -- what a round asks doesn't pass the test
  spared : (test : Request → Bool) (b n : ℕ) → ((x : ℕ) (r : Request) → Fits kind p x r → x ≡ b → test r ≡ false) → Clean test c b → Clean test (sent_all c i (round n f)) b
  spared test b n not_so k = sends_clean test b c i (round n f) (each_round (Spares test b) n f (λ x r lt e same. not_so x r (fits x r e) same)) k

  still_unqueried : (n : ℕ) → is_locking p ≡ true → Unqueried (sent_all c i (round n f))
  still_unqueried n t = sends_unqueried c i (round n f) (each_round IsNoQuery n f (λ x r lt e. fits_query kind p x r (fits x r e) t)) (h.unqueried t)

  still_alone : (n y : ℕ) → kind ≡ Exclusive → Clean is_shared (sent_all c i (round n f)) y
  still_alone n y e = spared is_shared y n (λ x r w same. fits_alone kind p x r w e) (h.alone y e)

  may_go : (x : ℕ) → MayGo kind p (sent_all c i (round x f)) x
  may_go x = record {
    lock = λ e. (below_clean is_lock x (h.unlocked x (ap (λ (q : Part). was_locked q x) e ∙ own_lock x)), still_unqueried x (ap is_locking e));
    make = λ e. below_clean is_make x (h.unmade x (ap was_making e));
    post = λ e. below_clean is_post x (h.unposted x (ap was_posted e));
    alone = λ y e. still_alone x y e;
  }

  pub round_ordered : (n : ℕ) → AllInOrder c i (round n f)
  round_ordered n = round_in_order c i n f (λ x r lt e. in_order kind p (sent_all c i (round x f)) x r (fits x r e) (may_go x))

  pub round_in : (n : ℕ) → In kind p (sent_all c i (round n f))
  round_in n = record {
    unlocked = λ b t. spared is_lock b n (λ x r w same. fits_lock kind p x r w b t same) (h.unlocked b (free p b t));
    unposted = λ b t. spared is_post b n (λ x r w same. fits_post kind p x r w t) (h.unposted b (not_posted p t));
    unmade = λ b t. spared is_make b n (λ x r w same. fits_make kind p x r w t) (h.unmade b (not_making p t));
    unqueried = λ t. still_unqueried n t;
    alone = λ y e. still_alone n y e;
  }

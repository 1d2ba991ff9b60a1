-- What the entries of one call make of the ledger and of the call's account.
use Rattle.std.proofs.Common.{◌≡◌, ◌≢◌, ⊎_elim, ℕ, ◌+◌, Bool, true, false, cond, ◌==◌, ◌&&◌, Option, Some, None, List, [], ◌∷◌, ◌++◌, refl, sym, ◌∙◌, ap, subst, arith}
use Rattle.std.proofs.lemmas.Bool.Decides.{nat_tests}
use Rattle.ec_store.specs.Put.{put}
use Rattle.std.specs.Prelude.{is_some}
use Rattle.ec_wire.specs.declared.message.Body.TheVariants.{ToBrick}
use Rattle.ec_wire.specs.declared.message.Message.{Message}
use Rattle.ec_wire.specs.declared.reply.Reply.{Reply}
use Rattle.ec_wire.specs.declared.request.Request.{Request}
use Rattle.ec_wire.specs.declared.request.Request.TheVariants.{Ask, Release, Query, PreOp, ReadChunks, WriteChunks, SetLength, PostOp, Clear, NameGet, NamesAfter, NameSet, NamesPut, Make, Made, Unmake, Mark, Unmark, GfidsAfter}
use Rattle.ec_conduct.specs.Account.{Account, Exchange, Wait, account_from, after as then_after, filed, gave_up, gfid_of, heard_by, left_by, over, sent, told}
use Rattle.ec_conduct.specs.Conduct.{Keeps, KeepsFrom}
use Rattle.ec_conduct.specs.Given.{Given}
use Rattle.ec_conduct.specs.Opened.{account, opened}
use Rattle.ec_conduct.specs.Own.{Own, Hears, GivesUp}
use Rattle.ec_history.specs.Run.{Asker, awaits_after, put2}
use Rattle.ec_txn.specs.Steps.{number_of}
use Rattle.ec_clients.specs.Calls.{IsMade, IsUnmade, OfCalls, Waits, begun_with, request_message}
use Rattle.ec_clients.specs.Frames.{Grows}
use Rattle.ec_clients.specs.Ledger.{Ledger}
use Rattle.ec_clients.specs.declared.options.Options.{Options}
use Rattle.ec_clients.proofs.Places.{either, put_is, some_is}

-- own entries, one more at the end

pub account_more : (given : Given) (es : List Own) (e : Own) → account given (es ++ e ∷ []) ≡ then_after (account given es) e
account_more given es e = go (opened given) es
  where
    go : (c : Account) (xs : List Own) → account_from c (xs ++ e ∷ []) ≡ then_after (account_from c xs) e
    go c [] = refl
    go c (x ∷ xs) = go (then_after c x) xs

-- a front of own entries that keep the conduct keeps it
pub keeps_front : (given : Given) (xs ys : List Own) → Keeps given (xs ++ ys) → Keeps given xs
keeps_front given xs ys = go (opened given) xs
  where
    go : (c : Account) (zs : List Own) → KeepsFrom c (zs ++ ys) → KeepsFrom c zs
    go c [] h = tt
    go c (z ∷ zs) h = (h.0, go (then_after c z) zs h.1)

-- what a call waits for

-- each request but a Release is waited for
abbrev pub has_reply : Request → Bool
has_reply (Release g n) = false
has_reply q = true

pub waits_sent : (c : Account) (b i : ℕ) (q : Request) → (sent c b i q).waits ≡ cond (has_reply q) (put c.waits b (Some (record { number = i; request = q }))) c.waits
waits_sent c b i (Ask g domain kind) = refl
waits_sent c b i (Release g n) = refl
waits_sent c b i (Query g n) = refl
waits_sent c b i (PreOp g n at dirty) = refl
waits_sent c b i (ReadChunks g n first count) = refl
waits_sent c b i (WriteChunks g n first chunks) = refl
waits_sent c b i (SetLength g n keep length) = refl
waits_sent c b i (PostOp g n at version size attr) = refl
waits_sent c b i (Clear g n at) = refl
waits_sent c b i (NameGet g n name) = refl
waits_sent c b i (NamesAfter g n start) = refl
waits_sent c b i (NameSet g n name child) = refl
waits_sent c b i (NamesPut g n start upto list) = refl
waits_sent c b i (Make g n child) = refl
waits_sent c b i (Made g n child) = refl
waits_sent c b i (Unmake g n child) = refl
waits_sent c b i (Mark g n heal head) = refl
waits_sent c b i (Unmark g n at dirty) = refl
waits_sent c b i (GfidsAfter start dirty) = refl

pub awaits_sent : (f : ℕ → ℕ → Option ℕ) (msg : Message) (q : Request) → awaits_after f msg (ToBrick q) ≡ cond (has_reply q) (put2 f msg.call msg.brick (Some msg.no)) f
awaits_sent f msg (Ask g domain kind) = refl
awaits_sent f msg (Release g n) = refl
awaits_sent f msg (Query g n) = refl
awaits_sent f msg (PreOp g n at dirty) = refl
awaits_sent f msg (ReadChunks g n first count) = refl
awaits_sent f msg (WriteChunks g n first chunks) = refl
awaits_sent f msg (SetLength g n keep length) = refl
awaits_sent f msg (PostOp g n at version size attr) = refl
awaits_sent f msg (Clear g n at) = refl
awaits_sent f msg (NameGet g n name) = refl
awaits_sent f msg (NamesAfter g n start) = refl
awaits_sent f msg (NameSet g n name child) = refl
awaits_sent f msg (NamesPut g n start upto list) = refl
awaits_sent f msg (Make g n child) = refl
awaits_sent f msg (Made g n child) = refl
awaits_sent f msg (Unmake g n child) = refl
awaits_sent f msg (Mark g n heal head) = refl
awaits_sent f msg (Unmark g n at dirty) = refl
awaits_sent f msg (GfidsAfter start dirty) = refl

waits_over : (c : Account) (b : ℕ) (e : Exchange) → (over c b e).waits ≡ put c.waits b None
waits_over c b e = go (gfid_of e.request)
  where
    go : (g : Option ℕ) → (filed (record c { waits = put c.waits b None; steps = c.steps + 1 }) b e g).waits ≡ put c.waits b None
    go None = refl
    go (Some g) = refl

-- the reply that is waited for is over, and so is a request that is given up
pub waits_heard : (c : Account) (b i : ℕ) (w : Wait) (reply : Reply) → c.waits b ≡ Some w → w.number ≡ i → (then_after c (Hears b i reply)).waits ≡ put c.waits b None
waits_heard c b i w reply e n = (λ k. (heard_by c b (e k) i reply).waits) ∙ (test (w.number == i) (grind (arith, nat_tests)) ∙ waits_over c b (record { number = w.number; request = w.request; reply = Some reply }))
  where
    test : (u : Bool) → u ≡ true → (cond u (told c b w reply) c).waits ≡ (told c b w reply).waits
    test true h = refl
    test false h = absurd (cc)

pub waits_left : (c : Account) (b i : ℕ) (w : Wait) → c.waits b ≡ Some w → w.number ≡ i → (then_after c (GivesUp b i)).waits ≡ put c.waits b None
waits_left c b i w e n = (λ k. (left_by c b (e k) i).waits) ∙ (test (w.number == i) (grind (arith, nat_tests)) ∙ waits_over c b (record { number = w.number; request = w.request; reply = None }))
  where
    test : (u : Bool) → u ≡ true → (cond u (gave_up c b w) c).waits ≡ (gave_up c b w).waits
    test true h = refl
    test false h = absurd (cc)

-- a wait is over
pub waits_less : (said more : ℕ → Option Message) (f h : ℕ → Option ℕ) (a j b : ℕ) (c d : Account) → Waits said f a j c → Grows said more → d.waits ≡ put c.waits b None → h b ≡ None → ((x : ℕ) → x ≢ b → h x ≡ f x) → Waits more h a j d
waits_less said more f h a j b c d w grows e here other = record {
  same = λ x. ⊎_elim (λ p. ap h p.0 ∙ (here ∙ sym (ap number_of ((λ i. e i x) ∙ p.1)))) (λ p. other x p.0 ∙ (w.same x ∙ sym (ap number_of ((λ i. e i x) ∙ p.1)))) (put_is c.waits b None x);
  sent = λ x v is. ⊎_elim (λ p. absurd (let bad : None ≡ Some v = sym ((λ i. e i x) ∙ p.1) ∙ is in cc)) (λ p. grows v.number _ (w.sent x v (sym ((λ i. e i x) ∙ p.1) ∙ is))) (put_is c.waits b None x);
}

-- one wait more
pub waits_more : (said more : ℕ → Option Message) (f h : ℕ → Option ℕ) (a j b i : ℕ) (q : Request) (c d : Account) → Waits said f a j c → Grows said more → more i ≡ Some (request_message i a j b q) → d.waits ≡ put c.waits b (Some (record { number = i; request = q })) → h b ≡ Some i → ((x : ℕ) → x ≢ b → h x ≡ f x) → Waits more h a j d
waits_more said more f h a j b i q c d w grows at e here other = record {
  same = λ x. ⊎_elim (λ p. ap h p.0 ∙ (here ∙ sym (ap number_of ((λ k. e k x) ∙ p.1)))) (λ p. other x p.0 ∙ (w.same x ∙ sym (ap number_of ((λ k. e k x) ∙ p.1)))) (put_is c.waits b (Some (record { number = i; request = q })) x);
  sent = λ x v is. ⊎_elim
      (λ p.
      let same : record { number = i; request = q } ≡ v = some_is _ _ (sym ((λ k. e k x) ∙ p.1) ∙ is) in
      subst (λ (y : ℕ). more v.number ≡ Some (request_message v.number a j y v.request)) (sym p.0) (subst (λ (u : Wait). more u.number ≡ Some (request_message u.number a j b u.request)) same at))
      (λ p. grows v.number _ (w.sent x v (sym ((λ k. e k x) ∙ p.1) ∙ is)))
      (put_is c.waits b (Some (record { number = i; request = q })) x);
}

-- and as many
pub waits_same : (said more : ℕ → Option Message) (f h : ℕ → Option ℕ) (a j : ℕ) (c d : Account) → Waits said f a j c → Grows said more → d.waits ≡ c.waits → ((x : ℕ) → h x ≡ f x) → Waits more h a j d
waits_same said more f h a j c d w grows e same = record {
  same = λ x. same x ∙ (w.same x ∙ sym (ap number_of (λ k. e k x)));
  sent = λ x v is. grows v.number _ (w.sent x v (sym (λ k. e k x) ∙ is));
}

pub put2_here : (f : ℕ → ℕ → Option ℕ) (a b : ℕ) (v : Option ℕ) → put2 f a b v a b ≡ v
put2_here f a b v = test (a == a) (b == b) (grind (arith, nat_tests)) (grind (arith, nat_tests))
  where
    test : (x y : Bool) → x ≡ true → y ≡ true → cond (x && y) v (f a b) ≡ v
    test true true h k = refl
    test true false h k = absurd (cc)
    test false y h k = absurd (cc)

pub put2_row : (f : ℕ → ℕ → Option ℕ) (a b : ℕ) (v : Option ℕ) (x : ℕ) → x ≢ b → put2 f a b v a x ≡ f a x
put2_row f a b v x ne = test (a == a) (x == b) (grind (arith, nat_tests))
  where
    test : (y z : Bool) → z ≡ false → cond (y && z) v (f a x) ≡ f a x
    test true true h = absurd (cc)
    test true false h = refl
    test false z h = refl

pub put2_other : (f : ℕ → ℕ → Option ℕ) (a b : ℕ) (v : Option ℕ) (x y : ℕ) → x ≢ a → put2 f a b v x y ≡ f x y
put2_other f a b v x y ne = test (x == a) (y == b) (grind (arith, nat_tests))
  where
    test : (u z : Bool) → u ≡ false → cond (u && z) v (f x y) ≡ f x y
    test true z h = absurd (cc)
    test false z h = refl

-- Call a takes a step: its own entries and what it waits for are others, and the asks that are released.
pub record Moved (l k : Ledger) (a : ℕ) : Type 0 where
  pub calls : k.calls ≡ l.calls
  pub asker : k.asker ≡ l.asker
  pub answered : k.answered ≡ l.answered
  pub dead : k.dead ≡ l.dead
  pub gfid : k.next_gfid ≡ l.next_gfid
  pub given : k.given ≡ l.given
  pub kept : k.kept ≡ l.kept
  pub cache : k.cache ≡ l.cache
  pub own : (x : ℕ) → x ≢ a → k.own x ≡ l.own x
  pub awaits : (x b : ℕ) → x ≢ a → k.awaits x b ≡ l.awaits x b

-- a call that isn't a is as it was
pub made_as_before : (o : Options) (said more : ℕ → Option Message) (l k : Ledger) (x : ℕ) (asker : Asker) → IsMade o said l x asker → Grows said more → k.given ≡ l.given → k.answered x ≡ l.answered x → k.own x ≡ l.own x → ((b : ℕ) → k.answered x ≡ false → k.awaits x b ≡ l.awaits x b) → IsMade o more k x asker
made_as_before o said more l k x asker h grows given answered own awaits = record {
  child = h.child;
  begun = (λ i. given i x) ∙ h.begun;
  conduct = subst (Keeps (begun_with o asker.op h.child)) (sym own) h.conduct;
  waits = λ un. subst (λ (es : List Own). Waits more (k.awaits x) x asker.client (account (begun_with o asker.op h.child) es)) (sym own) (waits_same said more (l.awaits x) (k.awaits x) x asker.client _ _ (h.waits (sym answered ∙ un)) grows refl (λ b. awaits b un));
}

pub calls_move : (o : Options) (said more : ℕ → Option Message) (l k : Ledger) (a : ℕ) (asker : Asker) → OfCalls o said l → Grows said more → Moved l k a → l.asker a ≡ Some asker → IsMade o more k a asker → OfCalls o more k
calls_move o said more l k a asker h grows moved is made = record {
  made = λ x w e. ⊎_elim
      (λ (p : x ≡ a).
      let same : Some asker ≡ Some w = sym is ∙ (sym (λ i. moved.asker i a) ∙ (ap k.asker (sym p) ∙ e)) in
      subst (λ (z : ℕ). IsMade o more k z w) (sym p) (subst (λ (z : Asker). IsMade o more k a z) (some_is asker w same) made))
      (λ ne. made_as_before o said more l k x w (h.made x w (sym (λ i. moved.asker i x) ∙ e)) grows moved.given (λ i. moved.answered i x) (moved.own x ne) (λ b un. moved.awaits x b ne))
      (either x a);
  given = λ x g e. ap is_some (λ i. moved.asker i x) ∙ h.given x g (sym (λ i. moved.given i x) ∙ e);
  range = λ x lt. (λ i. moved.asker i x) ∙ h.range x (let e = moved.calls in omega arith);
  later = λ x none.
      let old : IsUnmade l x = h.later x (sym (λ i. moved.asker i x) ∙ none) in
      let ne : x ≢ a = λ f. absurd (let bad : None ≡ Some asker = sym old.asker ∙ (ap l.asker f ∙ is) in cc) in
      record { asker = (λ i. moved.asker i x) ∙ old.asker; given = (λ i. moved.given i x) ∙ old.given; answered = (λ i. moved.answered i x) ∙ old.answered; own = moved.own x ne ∙ old.own; awaits = λ b. moved.awaits x b ne ∙ old.awaits b };
  no_grants = λ j. (λ i. moved.kept i j) ∙ h.no_grants j;
  no_stripes = λ j. (λ i. moved.cache i j) ∙ h.no_stripes j;
}

pub calls_grow : (o : Options) (said more : ℕ → Option Message) (l : Ledger) → OfCalls o said l → Grows said more → OfCalls o more l
calls_grow o said more l h grows = record {
  made = λ x w e. made_as_before o said more l l x w (h.made x w e) grows refl refl refl (λ b un. refl);
  given = h.given;
  range = h.range;
  later = h.later;
  no_grants = h.no_grants;
  no_stripes = h.no_stripes;
}

-- one own entry more, and one wait less or more
pub own_more : (o : Options) (l k : Ledger) (a : ℕ) (asker : Asker) (said more : ℕ → Option Message) (e : Own) (made : IsMade o said l a asker) → k.given ≡ l.given → k.own a ≡ l.own a ++ e ∷ [] → Keeps (begun_with o asker.op made.child) (l.own a ++ e ∷ []) → (k.answered a ≡ false → Waits more (k.awaits a) a asker.client (then_after (account (begun_with o asker.op made.child) (l.own a)) e)) → IsMade o more k a asker
own_more o l k a asker said more e made given own keeps waits = record {
  child = made.child;
  begun = (λ i. given i a) ∙ made.begun;
  conduct = subst (Keeps (begun_with o asker.op made.child)) (sym own) keeps;
  waits = λ un. subst (λ (c : Account). Waits more (k.awaits a) a asker.client c) (sym (ap (account (begun_with o asker.op made.child)) own ∙ account_more (begun_with o asker.op made.child) (l.own a) e)) (waits un);
}

-- All is as it was, but for what calls wait for that are answered.
pub record SameBut (l k : Ledger) : Type 0 where
  pub calls : k.calls ≡ l.calls
  pub asker : k.asker ≡ l.asker
  pub answered : k.answered ≡ l.answered
  pub gfid : k.next_gfid ≡ l.next_gfid
  pub given : k.given ≡ l.given
  pub kept : k.kept ≡ l.kept
  pub cache : k.cache ≡ l.cache
  pub own : k.own ≡ l.own
  pub let_go : (i : ℕ) → k.let_go i ≡ l.let_go i
  pub awaits : (x b : ℕ) → l.answered x ≡ false → k.awaits x b ≡ l.awaits x b
  pub unmade : (x : ℕ) → l.asker x ≡ None → (b : ℕ) → l.awaits x b ≡ None → k.awaits x b ≡ None

pub calls_same : (o : Options) (said more : ℕ → Option Message) (l k : Ledger) → OfCalls o said l → Grows said more → SameBut l k → OfCalls o more k
calls_same o said more l k h grows same = record {
  made = λ x w e. made_as_before o said more l k x w (h.made x w (sym (λ i. same.asker i x) ∙ e)) grows same.given (λ i. same.answered i x) (λ i. same.own i x) (λ b un. same.awaits x b (sym (λ i. same.answered i x) ∙ un));
  given = λ x g e. ap is_some (λ i. same.asker i x) ∙ h.given x g (sym (λ i. same.given i x) ∙ e);
  range = λ x lt. (λ i. same.asker i x) ∙ h.range x (let e = same.calls in omega arith);
  later = λ x none.
      let old : IsUnmade l x = h.later x (sym (λ i. same.asker i x) ∙ none) in
      record { asker = (λ i. same.asker i x) ∙ old.asker; given = (λ i. same.given i x) ∙ old.given; answered = (λ i. same.answered i x) ∙ old.answered; own = (λ i. same.own i x) ∙ old.own; awaits = λ b. same.unmade x old.asker b (old.awaits b) };
  no_grants = λ j. (λ i. same.kept i j) ∙ h.no_grants j;
  no_stripes = λ j. (λ i. same.cache i j) ∙ h.no_stripes j;
}

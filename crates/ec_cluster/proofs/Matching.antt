-- What each entry makes of the net, and that the cluster after it is as that net says.
use Rattle.std.proofs.Common.{◌≡◌, ◌≢◌, ⊎_elim, ℕ, ◌+◌, ◌<◌, Bool, true, false, cond, ◌==◌, Option, Some, None, List, [], ◌∷◌, ◌++◌, length, refl, sym, ◌∙◌, ap, subst, arith}
use Rattle.std.proofs.lemmas.Option.{slice_get_cases, slice_get_within}
use Rattle.std.specs.Prelude.{is_some, slice_get}
use Rattle.ec_brick.specs.State.{State}
use Rattle.ec_brick.specs.declared.brick.Brick.{Brick}
use Rattle.ec_history.specs.IsRun.{AreChunks, IsFirstOwed, IsOwed, MayAsk, MaySay, May}
use Rattle.ec_history.specs.Run.{Net, Owed, after, owed_after}
use Rattle.ec_store.specs.Put.{put}
use Rattle.ec_store.specs.Records.{Records}
use Rattle.ec_wire.specs.Lanes.{with_message}
use Rattle.ec_wire.specs.declared.entry.Entry.{Entry}
use Rattle.ec_wire.specs.declared.entry.Entry.TheVariants.{Sent}
use Rattle.ec_wire.specs.declared.message.Body.TheVariants.{ToBrick, ToClient}
use Rattle.ec_wire.specs.declared.message.Message.{Message}
use Rattle.ec_wire.specs.declared.reply.Reply.{Reply}
use Rattle.ec_wire.specs.declared.request.Request.{Request}
use Rattle.ec_cluster.proofs.Saying.{either, put_at, put_off, said_more}
use Rattle.ec_cluster.specs.Matches.{IsBrick, MatchesOf}
use Rattle.ec_cluster.specs.Said.{said_in}
use Rattle.ec_cluster.specs.Steps.{IsOfClient}

module _ (all : List Brick) (flying : ℕ → Option Message) (number : ℕ) (log : List Entry) (records : List Records) where
  -- sending a message
  flies_sent : (x : Message) (m : Net) (i : ℕ) → ((i : ℕ) → m.flying i ≡ is_some (flying i)) → x.no ≡ number → put m.flying x.no true i ≡ is_some (with_message flying number (Some x) i)
  flies_sent x m i h n = (λ k. put m.flying (n k) true i) ∙ go (i == number)
    where
      go : (u : Bool) → cond u true (m.flying i) ≡ is_some (cond u (Some x) (flying i))
      go true = refl
      go false = h i

  matches_sent : (owed left : List Owed) (m : Net) (x : Message) → MatchesOf all flying number log records owed m → x.no ≡ number → owed_after m.owed x.body ≡ left → MatchesOf all (with_message flying number (Some x)) (number + 1) (log ++ Sent x ∷ []) records left (after m (Sent x))
  matches_sent owed left m x h n o = record {
    next = ap (λ k. k + 1) h.next;
    said = (λ k. put (h.said k) x.no (Some x)) ∙ sym (said_more log (Sent x));
    flies = λ i. flies_sent x m i h.flies n;
    bricks = h.bricks;
    stores = h.stores;
    owes = o;
  }

  -- the first reply that is owed
  pub may_reply : (n : ℕ) (o : Owed) (owed : List Owed) (m : Net) (x : Message) (re : ℕ) (reply : Reply) → MatchesOf all flying number log records (o ∷ owed) m → x.no ≡ number → x.body ≡ ToClient re reply → IsOwed o x re reply → May n m (Sent x)
  may_reply n o owed m x re reply h num body is = (num ∙ sym h.next, subst (MaySay n m x) (sym body) (subst (λ (l : List Owed). IsFirstOwed l x re reply) (sym h.owes) is))

  pub matches_reply : (o : Owed) (owed : List Owed) (m : Net) (x : Message) (re : ℕ) (reply : Reply) → MatchesOf all flying number log records (o ∷ owed) m → x.no ≡ number → x.body ≡ ToClient re reply → MatchesOf all (with_message flying number (Some x)) (number + 1) (log ++ Sent x ∷ []) records owed (after m (Sent x))
  matches_reply o owed m x re reply h num body = matches_sent (o ∷ owed) owed m x h num (λ k. owed_after (h.owes k) (body k))

  -- a client's request
  pub may_ask : (n : ℕ) (m : Net) (x : Message) (q : Request) → MatchesOf all flying number log records [] m → x.no ≡ number → x.body ≡ ToBrick q → x.brick < n → AreChunks q → IsOfClient x.call x.client m → May n m (Sent x)
  may_ask n m x q h num body b chunks c =
      let asks : MayAsk n m x q = record { asker = c.asker; made = c.made; of_client = c.of_client; lives = c.lives; to = b; nothing_owed = h.owes; chunks = chunks } in
      (num ∙ sym h.next, subst (MaySay n m x) (sym body) asks)

  pub matches_ask : (m : Net) (x : Message) (q : Request) → MatchesOf all flying number log records [] m → x.no ≡ number → x.body ≡ ToBrick q → MatchesOf all (with_message flying number (Some x)) (number + 1) (log ++ Sent x ∷ []) records [] (after m (Sent x))
  matches_ask m x q h num body = matches_sent [] [] m x h num ((λ k. owed_after m.owed (body k)) ∙ h.owes)

  pub flies_taken : (num : ℕ) (m : Net) (i : ℕ) → ((i : ℕ) → m.flying i ≡ is_some (flying i)) → put m.flying num false i ≡ is_some (with_message flying num None i)
  flies_taken num m i h = go (i == num)
    where
      go : (u : Bool) → cond u false (m.flying i) ≡ is_some (cond u None (flying i))
      go true = refl
      go false = h i

  -- a message is taken, and the bricks are as before
  pub matches_taken : (m t : Net) (num : ℕ) (e : Entry) → MatchesOf all flying number log records [] m → said_in (log ++ e ∷ []) ≡ said_in log → t.next ≡ m.next → t.said ≡ m.said → t.flying ≡ put m.flying num false → t.brick ≡ m.brick → t.owed ≡ m.owed → MatchesOf all (with_message flying num None) number (log ++ e ∷ []) records [] t
  matches_taken m t num e h q tn ts tf tb to = record {
    next = tn ∙ h.next;
    said = ts ∙ (h.said ∙ sym q);
    flies = λ i. (λ k. tf k i) ∙ flies_taken num m i h.flies;
    bricks = λ b k r x y. subst (λ (f : ℕ → State). IsBrick (f b) k r) (sym tb) (h.bricks b k r x y);
    stores = h.stores;
    owes = to ∙ h.owes;
  }

  -- an entry that touches no brick and no message
  pub matches_noted : (m t : Net) (e : Entry) → MatchesOf all flying number log records [] m → said_in (log ++ e ∷ []) ≡ said_in log → t.next ≡ m.next → t.said ≡ m.said → t.flying ≡ m.flying → t.brick ≡ m.brick → t.owed ≡ m.owed → MatchesOf all flying number (log ++ e ∷ []) records [] t
  matches_noted m t e h q tn ts tf tb to = record {
    next = tn ∙ h.next;
    said = ts ∙ (h.said ∙ sym q);
    flies = λ i. (λ k. tf k i) ∙ h.flies i;
    bricks = λ b k r x y. subst (λ (f : ℕ → State). IsBrick (f b) k r) (sym tb) (h.bricks b k r x y);
    stores = h.stores;
    owes = to ∙ h.owes;
  }

  -- one brick is another, with the records of its store
  pub matches_brick : (more : List Brick) (stored : List Records) (m t : Net) (num : ℕ) (s : State) (fly : ℕ → Option Message) (e : Entry) (owed : List Owed)
      → MatchesOf all flying number log records [] m → said_in (log ++ e ∷ []) ≡ said_in log
      → ((b : ℕ) → b ≢ num → (slice_get more b ≡ slice_get all b) × (slice_get stored b ≡ slice_get records b))
      → ((k : Brick) (r : Records) → slice_get more num ≡ Some k → slice_get stored num ≡ Some r → IsBrick s k r)
      → t.next ≡ m.next → t.said ≡ m.said → ((i : ℕ) → t.flying i ≡ is_some (fly i)) → t.brick ≡ put m.brick num s → t.owed ≡ owed → length stored ≡ length more
      → MatchesOf more fly number (log ++ e ∷ []) stored owed t
  matches_brick more stored m t num s fly e owed h q others new tn ts tf tb to len = record {
    next = tn ∙ h.next;
    said = ts ∙ (h.said ∙ sym q);
    flies = tf;
    bricks = λ b k r x y. subst (λ (f : ℕ → State). IsBrick (f b) k r) (sym tb) (⊎_elim
        (λ (z : b ≡ num). subst (λ (c : State). IsBrick c k r) (sym (put_at m.brick num b s z)) (new k r (ap (slice_get more) (sym z) ∙ x) (ap (slice_get stored) (sym z) ∙ y)))
        (λ (z : b ≢ num). subst (λ (c : State). IsBrick c k r) (sym (put_off m.brick num b s z)) (h.bricks b k r (sym (others b z).0 ∙ x) (sym (others b z).1 ∙ y)))
        (either b num));
    stores = len;
    owes = to;
  }

  -- the records of a brick that is there
  pub records_at : (owed : List Owed) (m : Net) (b : ℕ) (k : Brick) → MatchesOf all flying number log records owed m → slice_get all b ≡ Some k → (r : Records) × (slice_get records b ≡ Some r)
  records_at owed m b k h e = ⊎_elim (λ p. (p.0, p.2)) (λ p. absurd (let w = slice_get_within all b k e in omega (arith, h.stores, p.0))) (slice_get_cases records b).1

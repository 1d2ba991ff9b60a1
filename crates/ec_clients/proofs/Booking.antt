-- What own entries say of asks, and between whom messages go, after each entry.
use Rattle.std.proofs.Common.{◌≡◌, ◌⊎◌, inl, inr, ⊎_elim, ℕ, ◌+◌, ◌<◌, Bool, true, false, cond, not, ◌&&◌, Option, Some, None, List, [], ◌∷◌, ◌++◌, refl, sym, ◌∙◌, ap, subst}
use Rattle.std.specs.List.{All, Contains}
use Rattle.std.proofs.lemmas.List.Elements.{All-head, All-tail, Contains-append_left, Contains-push, Contains-push_cases}
use Rattle.ec_attr.specs.declared.geometry.Geometry.{Geometry}
use Rattle.ec_attr.specs.declared.gfid.Gfid.{Gfid}
use Rattle.ec_attr.specs.declared.kind.Domain.{Domain}
use Rattle.ec_attr.specs.declared.kind.LockKind.{LockKind}
use Rattle.ec_cluster.specs.Said.{said_with}
use Rattle.ec_cluster.specs.Views.{size_of}
use Rattle.ec_cluster.specs.declared.cluster.Cluster.{Cluster}
use Rattle.ec_store.specs.Put.{put}
use Rattle.ec_conduct.specs.Given.{Given}
use Rattle.ec_conduct.specs.Own.{Own, Answers, GivesUp, Hears, Sends}
use Rattle.ec_conduct.specs.Table.{Send}
use Rattle.ec_history.specs.Accounts.{Books, hears, hears_body, own_of, sender, sends, with_own}
use Rattle.ec_history.specs.Run.{Net, call_of, executed, executed_by, heard, heard_by, is_number, let_go_after, torn_by, torn_off}
use Rattle.ec_txn.specs.declared.ctx.Ctx.{Ctx}
use Rattle.ec_wire.specs.declared.answer.Answer.{Answer}
use Rattle.ec_wire.specs.declared.entry.Entry.{Entry}
use Rattle.ec_wire.specs.declared.entry.Entry.TheVariants.{Answered, Called, Cut, Died, Executed, GivenUp, Heard, Lost, Replaced, Returned, Sent, Stopped, Torn, Yielded}
use Rattle.ec_wire.specs.declared.message.Body.{Body}
use Rattle.ec_wire.specs.declared.message.Body.TheVariants.{ToBrick, ToClient}
use Rattle.ec_wire.specs.declared.message.Message.{Message}
use Rattle.ec_wire.specs.declared.request.Request.{Request}
use Rattle.ec_wire.specs.declared.request.Request.TheVariants.{Ask, Release}
use Rattle.ec_clients.specs.Come.{Come, come, come_after}
use Rattle.ec_clients.specs.Frames.{AreWithin, IsWithin, released_by, with_released}
use Rattle.ec_clients.specs.Going.{answer_entries, sent_entries}
use Rattle.ec_clients.specs.Owned.{AreBelow, AreBooked, AreOwned, Sees}
use Rattle.ec_clients.specs.Steps.{Seen}
use Rattle.ec_clients.specs.declared.clients.Clients.{Clients}
use Rattle.ec_clients.proofs.Entries.{let_go_is}
use Rattle.ec_clients.proofs.Frames.{said_is}
use Rattle.ec_clients.proofs.Goings.{net_is}
use Rattle.ec_clients.proofs.Owning.{AllFit, owned_all}
use Rattle.ec_clients.proofs.Places.{put_here, put_is, some_is}

abbrev pub Booked : Come → Type 0
Booked p = AreBooked p.net.said p.net.let_go p.books.own

-- one own entry more

grown : (own : ℕ → List Own) (a : ℕ) (x y : Own) (b : ℕ) → Contains (own b) y → Contains (put own a (own a ++ x ∷ []) b) y
grown own a x y b h = ⊎_elim
    (λ p. subst (λ (l : List Own). Contains l y) (sym p.1) (Contains-append_left (own a) (x ∷ []) y (subst (λ (z : ℕ). Contains (own z) y) p.0 h)))
    (λ p. subst (λ (l : List Own). Contains l y) (sym p.1) h)
    (put_is own a (own a ++ x ∷ []) b)

added : (own : ℕ → List Own) (a : ℕ) (x : Own) → Contains (put own a (own a ++ x ∷ []) a) x
added own a x = subst (λ (l : List Own). Contains l x) (sym (put_here own a (own a ++ x ∷ []))) (Contains-push (own a) x)

before_or : (own : ℕ → List Own) (a : ℕ) (x y : Own) (b : ℕ) → Contains (put own a (own a ++ x ∷ []) b) y → Contains (own b) y ⊎ (x ≡ y)
before_or own a x y b h = ⊎_elim
    (λ p. ⊎_elim (λ k. inl (subst (λ (z : ℕ). Contains (own z) y) (sym p.0) k)) (λ e. inr e) (Contains-push_cases (own a) x y (subst (λ (l : List Own). Contains l y) p.1 h)))
    (λ p. inl (subst (λ (l : List Own). Contains l y) p.1 h))
    (put_is own a (own a ++ x ∷ []) b)

more : (said : ℕ → Option Message) (let_go : ℕ → Bool) (own : ℕ → List Own) (a : ℕ) (x : Own) → ((b i n : ℕ) (g : Gfid) → x ≡ Sends b i (Release g n) → ⊥) → AreBooked said let_go own → AreBooked said let_go (put own a (own a ++ x ∷ []))
more said let_go own a x none h = record {
  asks = λ i m g domain kind e f. grown own a x (Sends m.brick i (Ask g domain kind)) m.call (h.asks i m g domain kind e f);
  releases = λ z b i n g k. ⊎_elim (λ old. h.releases z b i n g old) (λ e. absurd (none b i n g e)) (before_or own a x (Sends b i (Release g n)) z k);
}

-- a request is sent

ask_added : (m : Net) (books : Books) (msg : Message) (g : Gfid) (domain : Domain) (kind : LockKind) → Contains ((own_of books (sender m books msg (Ask g domain kind)) (Sends msg.brick msg.no (Ask g domain kind))).own msg.call) (Sends msg.brick msg.no (Ask g domain kind))
ask_added m books msg g domain kind = added books.own msg.call (Sends msg.brick msg.no (Ask g domain kind))

module _ (m : Net) (books : Books) (msg : Message) (q : Request) (body : msg.body ≡ ToBrick q) (h : AreBooked m.said m.let_go books.own) where
  abbrev own_now : Option ℕ → ℕ → List Own
  own_now o = (own_of books o (Sends msg.brick msg.no q)).own

  kept : (o : Option ℕ) (b : ℕ) (y : Own) → Contains (books.own b) y → Contains (own_now o b) y
  kept None b y k = k
  kept (Some a) b y k = grown books.own a (Sends msg.brick msg.no q) y b k

  was_or : (o : Option ℕ) (b : ℕ) (y : Own) → Contains (own_now o b) y → Contains (books.own b) y ⊎ (Sends msg.brick msg.no q ≡ y)
  was_or None b y k = inl k
  was_or (Some a) b y k = before_or books.own a (Sends msg.brick msg.no q) y b k

  still_let : (n : ℕ) → m.let_go n ≡ true → let_go_after m.let_go (ToBrick q) n ≡ true
  still_let n e = let_go_is m.let_go q n ∙ by (released_by q)
    where
      by : (o : Option ℕ) → with_released m.let_go o n ≡ true
      by None = e
      by (Some x) = ⊎_elim (λ p. p.1) (λ p. p.1 ∙ e) (put_is m.let_go x true n)

  let_now : (b i n : ℕ) (g : Gfid) → Sends msg.brick msg.no q ≡ Sends b i (Release g n) → let_go_after m.let_go (ToBrick q) n ≡ true
  let_now b i n g e = let r : q ≡ Release g n = cc in subst (λ (z : Request). let_go_after m.let_go (ToBrick z) n ≡ true) (sym r) (put_here m.let_go n true)

  same_ask : (x : Message) (g : Gfid) (domain : Domain) (kind : LockKind) → msg ≡ x → x.body ≡ ToBrick (Ask g domain kind) → q ≡ Ask g domain kind
  same_ask x g domain kind e f = let r : ToBrick q ≡ ToBrick (Ask g domain kind) = sym body ∙ (ap (λ (z : Message). z.body) e ∙ f) in cc

  sent_booked : AreBooked (put m.said msg.no (Some msg)) (let_go_after m.let_go (ToBrick q)) (own_now (sender m books msg q))
  sent_booked = record {
    asks = λ i x g domain kind e f. ⊎_elim
        (λ p.
        let same : msg ≡ x = some_is msg x (sym p.1 ∙ e) in
        let here : Contains (own_now (sender m books msg q) msg.call) (Sends msg.brick msg.no (Ask g domain kind)) = subst (λ (z : Request). Contains ((own_of books (sender m books msg z) (Sends msg.brick msg.no z)).own msg.call) (Sends msg.brick msg.no (Ask g domain kind))) (sym (same_ask x g domain kind same f)) (ask_added m books msg g domain kind) in
        subst (λ (z : Message). Contains (own_now (sender m books msg q) z.call) (Sends z.brick i (Ask g domain kind))) same (subst (λ (n : ℕ). Contains (own_now (sender m books msg q) msg.call) (Sends msg.brick n (Ask g domain kind))) (sym p.0) here))
        (λ p. kept (sender m books msg q) x.call (Sends x.brick i (Ask g domain kind)) (h.asks i x g domain kind (sym p.1 ∙ e) f))
        (put_is m.said msg.no (Some msg) i);
    releases = λ a b i n g k. ⊎_elim (λ old. still_let n (h.releases a b i n g old)) (λ e. let_now b i n g e) (was_or (sender m books msg q) a (Sends b i (Release g n)) k);
  }

reply_booked : (said : ℕ → Option Message) (let_go : ℕ → Bool) (own : ℕ → List Own) (msg : Message) → ((q : Request) → msg.body ≡ ToBrick q → ⊥) → AreBooked said let_go own → AreBooked (put said msg.no (Some msg)) let_go own
reply_booked said let_go own msg none h = record {
  asks = λ i x g domain kind e f. ⊎_elim
      (λ p. absurd (none (Ask g domain kind) (ap (λ (z : Message). z.body) (some_is msg x (sym p.1 ∙ e)) ∙ f)))
      (λ p. h.asks i x g domain kind (sym p.1 ∙ e) f)
      (put_is said msg.no (Some msg) i);
  releases = h.releases;
}

booked_one : (geometry : Geometry) (p : Come) (e : Entry) → Booked p → Booked (come_after geometry p e)
booked_one geometry p (Sent msg) h = by msg.body refl
  where
    by : (y : Body) → msg.body ≡ y → AreBooked (put p.net.said msg.no (Some msg)) (let_go_after p.net.let_go y) (sends p.net p.books msg y).own
    by (ToBrick q) e = sent_booked p.net p.books msg q e h
    by (ToClient re reply) e = reply_booked p.net.said p.net.let_go p.books.own msg (λ q f. absurd (let bad : ToClient re reply ≡ ToBrick q = sym e ∙ f in cc)) h
booked_one geometry p (Heard i) h = by (p.net.said i)
  where
    by : (o : Option Message) → AreBooked (heard p.net o).said (heard p.net o).let_go (hears p.net p.books o).own
    by None = h
    by (Some msg) = body msg.body
      where
        body : (y : Body) → AreBooked (heard_by p.net msg y).said (heard_by p.net msg y).let_go (hears_body p.net p.books msg y).own
        body (ToBrick q) = h
        body (ToClient re reply) = test (is_number re (p.net.awaits msg.call msg.brick) && not (p.net.answered msg.call))
          where
            test : (u : Bool) → AreBooked p.net.said p.net.let_go (cond u (with_own p.books msg.call (Hears msg.brick re reply)) p.books).own
            test true = more p.net.said p.net.let_go p.books.own msg.call (Hears msg.brick re reply) (λ b n x g e. absurd (cc)) h
            test false = h
booked_one geometry p (Executed i v g) h = by (p.net.said i)
  where
    by : (o : Option Message) → AreBooked (executed p.net o v g).said (executed p.net o v g).let_go p.books.own
    by None = h
    by (Some msg) = body msg.body
      where
        body : (y : Body) → AreBooked (executed_by p.net msg y v g).said (executed_by p.net msg y v g).let_go p.books.own
        body (ToBrick q) = h
        body (ToClient re reply) = h
booked_one geometry p (Torn i n v) h = by (p.net.said i)
  where
    by : (o : Option Message) → AreBooked (torn_off p.net o n v).said (torn_off p.net o n v).let_go p.books.own
    by None = h
    by (Some msg) = body msg.body
      where
        body : (y : Body) → AreBooked (torn_by p.net msg y n v).said (torn_by p.net msg y n v).let_go p.books.own
        body (ToBrick q) = h
        body (ToClient re reply) = h
booked_one geometry p (GivenUp j b i) h = more p.net.said p.net.let_go p.books.own (call_of (p.net.said i)) (GivesUp b i) (λ x n y g e. absurd (cc)) h
booked_one geometry p (Answered a answer) h = more p.net.said p.net.let_go p.books.own a (Answers answer) (λ x n y g e. absurd (cc)) h
booked_one geometry p (Called a j op) h = h
booked_one geometry p (Lost i) h = h
booked_one geometry p (Stopped b) h = h
booked_one geometry p (Returned b) h = h
booked_one geometry p (Cut j b) h = h
booked_one geometry p (Died j) h = h
booked_one geometry p (Yielded j) h = h
booked_one geometry p (Replaced b n all) h = h

-- after any entries
pub booked_come : (geometry : Geometry) (es : List Entry) (p : Come) → Booked p → Booked (come geometry es p)
booked_come geometry [] p h = h
booked_come geometry (e ∷ es) p h = booked_come geometry es (come_after geometry p e) (booked_one geometry p e h)

-- between whom messages go

below_one : (n : ℕ) (said : ℕ → Option Message) (e : Entry) → IsWithin n e → AreBelow n said → AreBelow n (said_with said e)
below_one n said (Sent msg) w h = λ i m e. ⊎_elim (λ p. subst (λ (z : Message). z.brick < n) (some_is msg m (sym p.1 ∙ e)) w) (λ p. h i m (sym p.1 ∙ e)) (put_is said msg.no (Some msg) i)
below_one n said (Executed i v g) w h = h
below_one n said (Called a j op) w h = h
below_one n said (Heard i) w h = h
below_one n said (Lost i) w h = h
below_one n said (GivenUp j b i) w h = h
below_one n said (Stopped b) w h = h
below_one n said (Returned b) w h = h
below_one n said (Cut j b) w h = h
below_one n said (Died j) w h = h
below_one n said (Yielded j) w h = h
below_one n said (Torn i x v) w h = h
below_one n said (Answered a answer) w h = h
below_one n said (Replaced b x all) w h = h

below_come : (geometry : Geometry) (n : ℕ) (es : List Entry) (p : Come) → AreWithin n es → AreBelow n p.net.said → AreBelow n (come geometry es p).net.said
below_come geometry n [] p w h = h
below_come geometry n (e ∷ es) p w h = below_come geometry n es (come_after geometry p e) w.1 (subst (AreBelow n) (sym (said_is geometry p e)) (below_one n p.net.said e w.0 h))

-- what a call sends and answers
pub sends_within : (n a j i : ℕ) (ss : List Send) (answer : Option Answer) → All (λ (x : Send). x.0 < n) ss → AreWithin n (sent_entries a j i ss ++ answer_entries a answer)
sends_within n a j i [] None h = tt
sends_within n a j i [] (Some answer) h = (tt, tt)
sends_within n a j i (s ∷ ss) answer h = (All-head (λ (x : Send). x.0 < n) s ss h, sends_within n a j (i + 1) ss answer (All-tail (λ (x : Send). x.0 < n) s ss h))

-- what is seen after entries that fit
module _ {C : Type 0} (stands : Ctx → Given → C → List Own → Type 0) (by_table : Ctx → Given → List Own → Type 0) where
  pub sees_come : (s t : Cluster) (c d : Clients C) (geometry : Geometry) (es : List Entry) (p : Come) → size_of t ≡ size_of s → AllFit p.net es → AreWithin (size_of s) es → Seen stands by_table t d None (come geometry es p) → Sees stands by_table s c p → Sees stands by_table t d (come geometry es p)
  sees_come s t c d geometry es p size fit within seen h = record {
    seen = seen;
    owned = subst (λ (m : Net). AreOwned m.said m.asker) (sym (net_is geometry es p)) (owned_all es p.net fit h.owned);
    below = subst (λ (n : ℕ). AreBelow n (come geometry es p).net.said) (sym size) (below_come geometry (size_of s) es p within h.below);
    booked = booked_come geometry es p h.booked;
  }

-- How a call's account goes on beside the log: as its own request is over, as it sends one, and as others send.
use Rattle.std.proofs.Common.{◌≡◌, ◌≢◌, ◌⊎◌, ℕ, ◌+◌, ◌≤◌, Bool, true, false, ◌==◌, Option, Some, None, List, [], ◌∷◌, refl, sym, ◌∙◌, ap, subst, arith, inl, inr, ⊎_elim, ◌<◌, ◌||◌}
use Rattle.std.proofs.lemmas.Bool.Decides.{nat_tests}
use Rattle.ec_store.specs.Put.{put}
use Rattle.ec_wire.specs.declared.message.Message.{Message}
use Rattle.ec_wire.specs.declared.message.Body.TheVariants.{ToBrick}
use Rattle.ec_attr.specs.declared.kind.Domain.TheVariants.{Inode}
use Rattle.ec_wire.specs.declared.request.Request.{Request}
use Rattle.ec_wire.specs.declared.request.Request.TheVariants.{Ask}
use Rattle.ec_conduct.specs.Account.{Dealings, Exchange, Lock, Place, Wait, gfid_of, granted, noted, with_place}
use Rattle.ec_conduct.specs.Conduct.{is_release}
use Rattle.ec_conduct.specs.Done.{is_query, tried}
use Rattle.ec_law_turns.specs.Follows.{All, Has, IsLock, IsOfTurn, IsSaid, Tracks}
use Rattle.ec_law_turns.proofs.Basics.{all_map, put_here, put_some, put_there, some_is, some_none, wait_of}

-- ## A request is over

-- what is over leaves the ask as it is, but for its grant
granted_number : (o : Option Lock) (e : Exchange) (l : Lock) → granted o e ≡ Some l → (k : Lock) × (o ≡ Some k) × (k.number ≡ l.number)
granted_number None e l h = absurd (cc)
granted_number (Some k) e l h = (k, refl, ap (λ (x : Lock). x.number) (some_is _ l h))

granted_there : (o : Option Lock) (e : Exchange) → o ≢ None → granted o e ≢ None
granted_there None e ne h = ne refl
granted_there (Some k) e ne h = some_none _ h

module _ (g : ℕ) (said : ℕ → Option Message) (turn : ℕ → Option ℕ) (of : ℕ → ℕ) (moment : ℕ → Bool) (a : ℕ) (waits : ℕ → Option Wait) (steps : ℕ) (d : Dealings) (f : Tracks g said turn of moment a waits steps d) (b : ℕ) (w : Wait) (is : waits b ≡ Some w) (e : Exchange) (number : e.number ≡ w.number) (request : e.request ≡ w.request) where
  still_waits : (x : ℕ) (y : Wait) → put waits b None x ≡ Some y → (x ≢ b) × (waits x ≡ Some y)
  still_waits x y h = ⊎_elim (λ k. absurd (some_none y (sym k.1))) (λ k. k) (put_some waits b None x y h)

  said_over : IsSaid said a b e.number e.request
  said_over = let s = f.waiting b w is in record { message = s.message; is = ap said number ∙ s.is; call = s.call; brick = s.brick; body = s.body ∙ ap (λ (q : Request). ToBrick q) (sym request) }

  -- of a request on the gfid
  pub over_here : gfid_of e.request ≡ Some g → Tracks g said turn of moment a (put waits b None) (steps + 1) (with_place d b (noted (d.place b) e))
  over_here on = record {
    waiting = λ x y h. f.waiting x y (still_waits x y h).1;
    waits_in = λ x y h k. let o = still_waits x y h in let p = f.waits_in x y o.1 k in (p.0, λ n. p.1 (sym (ap (λ (z : Place). z.inode) (put_there d.place b (noted (d.place b) e) x o.0)) ∙ n));
    sent = λ x i q s k r t. ⊎_elim (λ z. waited x i q z (x == b) refl) (λ z. inr (seen x i q z (x == b) refl)) (f.sent x i q s k r t);
    window = λ x. windows x (x == b) refl;
    lock = λ x l h. locks x l (x == b) refl h;
    unhealed = λ x. heals x (x == b) refl;
    looking = λ x y h k z. f.looking x y (still_waits x y h).1 k z;
    looked = λ x h. looks x (x == b) refl h;
    begins = f.begins;
    over = λ s h. let o = f.over s h in (let z = o.0 in omega (arith, z), o.1, o.2, o.3);
  }
    where
      later : Dealings
      later = with_place d b (noted (d.place b) e)

      here : (x : ℕ) → (x == b) ≡ true → later.place x ≡ noted (d.place b) e
      here x h = put_here d.place b (noted (d.place b) e) x (sym (grind (arith, nat_tests)))

      there : (x : ℕ) → (x == b) ≡ false → later.place x ≡ d.place x
      there x h = put_there d.place b (noted (d.place b) e) x (λ (z : x ≡ b). grind (arith, nat_tests))

      at_b : (x : ℕ) → (x == b) ≡ true → x ≡ b
      at_b x h = grind (arith, nat_tests)

      waited : (x i : ℕ) (q : Request) → waits x ≡ Some (wait_of i q) → (t : Bool) → (x == b) ≡ t → (put waits b None x ≡ Some (wait_of i q)) ⊎ Has i q (later.place x).window
      waited x i q z true h =
          let same = some_is w (wait_of i q) (sym is ∙ (ap waits (sym (at_b x h)) ∙ z)) in
          inr (subst (λ (p : Place). Has i q p.window) (sym (here x h)) (inl (number ∙ ap (λ (y : Wait). y.number) same, request ∙ ap (λ (y : Wait). y.request) same)))
      waited x i q z false h = inl (put_there waits b None x (λ (y : x ≡ b). grind (arith, nat_tests)) ∙ z)

      seen : (x i : ℕ) (q : Request) → Has i q (d.place x).window → (t : Bool) → (x == b) ≡ t → Has i q (later.place x).window
      seen x i q z true h = subst (λ (p : Place). Has i q p.window) (sym (here x h)) (inr (subst (λ (y : ℕ). Has i q (d.place y).window) (at_b x h) z))
      seen x i q z false h = subst (λ (p : Place). Has i q p.window) (sym (there x h)) z

      one_over : IsOfTurn said turn of a b e.number e.request
      one_over = (said_over, (f.waits_in b w is (ap gfid_of (sym request) ∙ on)).0 ∙ ap (λ (y : ℕ). Some (of y)) (sym number))

      windows : (x : ℕ) → (t : Bool) → (x == b) ≡ t → All (λ z. IsOfTurn said turn of a x z.number z.request) (later.place x).window
      windows x true h = subst (λ (p : Place). All (λ z. IsOfTurn said turn of a x z.number z.request) p.window) (sym (here x h)) (subst (λ (y : ℕ). All (λ z. IsOfTurn said turn of a y z.number z.request) (e ∷ (d.place b).window)) (sym (at_b x h)) (one_over, f.window b))
      windows x false h = subst (λ (p : Place). All (λ z. IsOfTurn said turn of a x z.number z.request) p.window) (sym (there x h)) (f.window x)

      some_look : (o : Option ℕ) → d.queried ≡ o → o ≢ None → (s : ℕ) × (d.queried ≡ Some s) × (s < steps + 1)
      some_look None e ne = absurd (ne refl)
      some_look (Some s) e ne = (s, e, let z = (f.over s e).0 in omega (arith, z))

      look_at : (t : Bool) (es : List Exchange) → is_query e.request ≡ t → (t || tried is_query es) ≡ true → (tried is_query es ≡ true → (s : ℕ) × (d.queried ≡ Some s) × (s < steps)) → (s : ℕ) × (d.queried ≡ Some s) × (s < steps + 1)
      look_at true es k h old = some_look d.queried refl (f.looking b w is (ap gfid_of (sym request) ∙ on) (ap is_query (sym request) ∙ k))
      look_at false es k h old = let o = old h in (o.0, o.1, let z = o.2 in omega (arith, z))

      looks : (x : ℕ) (t : Bool) → (x == b) ≡ t → tried is_query (later.place x).window ≡ true → (s : ℕ) × (d.queried ≡ Some s) × (s < steps + 1)
      looks x true h z = look_at (is_query e.request) (d.place b).window refl (sym (ap (λ (p : Place). tried is_query p.window) (here x h)) ∙ z) (f.looked b)
      looks x false h z = let o = f.looked x (sym (ap (λ (p : Place). tried is_query p.window) (there x h)) ∙ z) in (o.0, o.1, let y = o.2 in omega (arith, y))

      heals : (x : ℕ) (t : Bool) → (x == b) ≡ t → (later.place x).heal ≡ None
      heals x true h = ap (λ (p : Place). p.heal) (here x h) ∙ ap (λ (o : Option Lock). granted o e) (f.unhealed b)
      heals x false h = ap (λ (p : Place). p.heal) (there x h) ∙ f.unhealed x

      locks : (x : ℕ) (l : Lock) (t : Bool) → (x == b) ≡ t → (later.place x).inode ≡ Some l → (turn a ≡ Some (of l.number)) × IsLock g said a x l.number
      locks x l true h z = let o = granted_number (d.place b).inode e l (sym (ap (λ (p : Place). p.inode) (here x h)) ∙ z) in let u = f.lock b o.0 o.1 in (u.0 ∙ ap (λ (y : ℕ). Some (of y)) o.2, subst (λ (y : ℕ). IsLock g said a y l.number) (sym (at_b x h)) (subst (λ (y : ℕ). IsLock g said a b y) o.2 u.1))
      locks x l false h z = f.lock x l (sym (ap (λ (p : Place). p.inode) (there x h)) ∙ z)

  -- of another one
  pub over_apart : gfid_of e.request ≢ Some g → Tracks g said turn of moment a (put waits b None) (steps + 1) d
  over_apart ne = record {
    waiting = λ x y h. f.waiting x y (still_waits x y h).1;
    waits_in = λ x y h k. f.waits_in x y (still_waits x y h).1 k;
    sent = λ x i q s k r t. ⊎_elim (λ z. inl (put_there waits b None x (λ y. ne (ap gfid_of (request ∙ ap (λ (u : Wait). u.request) (some_is w (wait_of i q) (sym is ∙ (ap waits (sym y) ∙ z)))) ∙ k)) ∙ z)) (λ z. inr z) (f.sent x i q s k r t);
    window = f.window;
    lock = f.lock;
    unhealed = f.unhealed;
    looking = λ x y h k z. f.looking x y (still_waits x y h).1 k z;
    looked = λ x h. let o = f.looked x h in (o.0, o.1, let z = o.2 in omega (arith, z));
    begins = f.begins;
    over = λ s h. let o = f.over s h in (let z = o.0 in omega (arith, z), o.1, o.2, o.3);
  }

-- ## A message is sent

pub request_is : (q r : Request) → ToBrick q ≡ ToBrick r → q ≡ r
request_is q r e = cc

-- what was said stays said
pub record Adds (said said' : ℕ → Option Message) (of of' : ℕ → ℕ) (no : ℕ) (msg : Message) : Type 0 where
  pub still : (i : ℕ) (x : Message) → said i ≡ Some x → (said' i ≡ Some x) × (of' i ≡ of i)
  pub before : (i : ℕ) (x : Message) → said i ≡ Some x → i ≢ no
  pub newest : (i : ℕ) (x : Message) → said' i ≡ Some x → ((i ≡ no) × (msg ≡ x)) ⊎ (said i ≡ Some x)

module _ (g : ℕ) (said said' : ℕ → Option Message) (turn turn' : ℕ → Option ℕ) (of of' : ℕ → ℕ) (moment moment' : ℕ → Bool) (a : ℕ) (waits : ℕ → Option Wait) (steps : ℕ) (d : Dealings) (no : ℕ) (msg : Message) (adds : Adds said said' of of' no msg) (f : Tracks g said turn of moment a waits steps d) where
  pub said_later : (b i : ℕ) (q : Request) → IsSaid said a b i q → IsSaid said' a b i q
  said_later b i q s = record { message = s.message; is = (adds.still i s.message s.is).0; call = s.call; brick = s.brick; body = s.body }

  of_later : (b i : ℕ) (q : Request) → IsSaid said a b i q → of' i ≡ of i
  of_later b i q s = (adds.still i s.message s.is).1

  said_before : (b i : ℕ) (q : Request) → IsSaid said' a b i q → (i ≢ no) → IsSaid said a b i q
  said_before b i q s ne = record { message = s.message; is = ⊎_elim (λ h. absurd (ne h.0)) (λ h. h) (adds.newest i s.message s.is); call = s.call; brick = s.brick; body = s.body }

  pub lock_said : (b i : ℕ) → IsLock g said a b i → IsLock g said' a b i
  lock_said b i h = record { gfid = h.gfid; kind = h.kind; on = h.on; asks = said_later b i (Ask h.gfid Inode h.kind) h.asks }

  lock_of : (b i : ℕ) → IsLock g said a b i → of' i ≡ of i
  lock_of b i h = of_later b i (Ask h.gfid Inode h.kind) h.asks

  module _ (same : turn' a ≡ turn a) where
    kept_lock : (b : ℕ) (l : Lock) → (d.place b).inode ≡ Some l → (turn' a ≡ Some (of' l.number)) × IsLock g said' a b l.number
    kept_lock b l h = let o = f.lock b l h in (same ∙ (o.0 ∙ ap (λ (y : ℕ). Some y) (sym (lock_of b l.number o.1))), lock_said b l.number o.1)

    turn_later : (b i : ℕ) (q : Request) → IsSaid said a b i q → turn a ≡ Some (of i) → turn' a ≡ Some (of' i)
    turn_later b i q s t = same ∙ (t ∙ ap (λ (y : ℕ). Some y) (sym (of_later b i q s)))

    turn_before : (b i : ℕ) (q : Request) → IsSaid said a b i q → turn' a ≡ Some (of' i) → turn a ≡ Some (of i)
    turn_before b i q s t = sym same ∙ (t ∙ ap (λ (y : ℕ). Some y) (of_later b i q s))

    all_later : (b : ℕ) (es : List Exchange) → All (λ e. IsOfTurn said turn of a b e.number e.request) es → All (λ e. IsOfTurn said' turn' of' a b e.number e.request) es
    all_later b es h = all_map (λ e. IsOfTurn said turn of a b e.number e.request) (λ e. IsOfTurn said' turn' of' a b e.number e.request) (λ e o. (said_later b e.number e.request o.0, turn_later b e.number e.request o.0 o.1)) es h

    -- another call sends, or what is sent is no request of the call's own but a Release
    pub others_send : ((b : ℕ) (q : Request) → IsSaid said' a b no q → is_release q ≡ false → ⊥) → ((t : ℕ) → turn a ≡ Some t → moment' t ≡ moment t) → Tracks g said' turn' of' moment' a waits steps d
    others_send foreign moments = record {
      waiting = λ b w h. said_later b w.number w.request (f.waiting b w h);
      waits_in = λ b w h k. let o = f.waits_in b w h k in (turn_later b w.number w.request (f.waiting b w h) o.0, o.1);
      sent = λ b i q s k r t. let before = said_before b i q s (λ h. foreign b q (subst (λ (y : ℕ). IsSaid said' a b y q) h s) r) in f.sent b i q before k r (turn_before b i q before t);
      window = λ b. all_later b (d.place b).window (f.window b);
      lock = kept_lock;
      unhealed = f.unhealed;
      looking = f.looking;
      looked = f.looked;
      begins = λ h t k. let before = sym same ∙ k in moments t before ∙ f.begins h t before;
      over = λ s h. let o = f.over s h in (o.0, o.1, same ∙ o.2, moments o.1 o.2 ∙ o.3);
    }

    -- the call itself sends, in the turn that it has; `q` is no Release
    module _ (b : ℕ) (q : Request) (mine : IsSaid said' a b no q) (d' : Dealings) (windows : (x : ℕ) → (d'.place x).window ≡ (d.place x).window) (inodes : (x : ℕ) (l : Lock) → (d'.place x).inode ≡ Some l → ((d.place x).inode ≡ Some l) ⊎ ((turn' a ≡ Some (of' l.number)) × IsLock g said' a x l.number)) (unhealed : (x : ℕ) → (d'.place x).heal ≡ None) (looks : (x : ℕ) → tried is_query (d.place x).window ≡ true → (s : ℕ) × (d'.queried ≡ Some s) × (s < steps)) (still_looks : d.queried ≢ None → d'.queried ≢ None) (begins : d'.queried ≡ None → (t : ℕ) → turn' a ≡ Some t → moment' t ≡ false) (over : (s : ℕ) → d'.queried ≡ Some s → (s ≤ steps) × (t : ℕ) × (turn' a ≡ Some t) × (moment' t ≡ true)) where
      -- message `no` is the one that is sent
      mine_is : (i : ℕ) (y : Message) → said' i ≡ Some y → i ≡ no → mine.message ≡ y
      mine_is i y is e = some_is mine.message y (sym mine.is ∙ (ap said' (sym e) ∙ is))

      mine_asks : (i : ℕ) (r : Request) (y : Message) → said' i ≡ Some y → y.body ≡ ToBrick r → i ≡ no → q ≡ r
      mine_asks i r y is body e = request_is q r (sym mine.body ∙ (ap (λ (z : Message). z.body) (mine_is i y is e) ∙ body))

      windows_later : (x : ℕ) → All (λ e. IsOfTurn said' turn' of' a x e.number e.request) (d'.place x).window
      windows_later x = subst (All (λ e. IsOfTurn said' turn' of' a x e.number e.request)) (sym (windows x)) (all_later x (d.place x).window (f.window x))

      lock_later : (x : ℕ) (l : Lock) → (d'.place x).inode ≡ Some l → (turn' a ≡ Some (of' l.number)) × IsLock g said' a x l.number
      lock_later x l h = ⊎_elim (λ k. kept_lock x l k) (λ k. k) (inodes x l h)

      pub goes : (gfid_of q ≡ Some g → is_query q ≡ true → d'.queried ≢ None) → ((x : ℕ) → (d.place x).inode ≢ None → (d'.place x).inode ≢ None) → is_release q ≡ false → waits b ≡ None → (gfid_of q ≡ Some g → (turn' a ≡ Some (of' no)) × ((d'.place b).inode ≢ None)) → Tracks g said' turn' of' moment' a (put waits b (Some (wait_of no q))) steps d'
      goes new_looks locked no_release idle new = record {
        waiting = λ x w h. ⊎_elim (λ k. newly x w k.0 (some_is (wait_of no q) w k.1)) (λ k. said_later x w.number w.request (f.waiting x w k.1)) (put_some waits b (Some (wait_of no q)) x w h);
        waits_in = λ x w h k. ⊎_elim (λ z. newly_in x w z.0 (some_is (wait_of no q) w z.1) k) (λ z. let o = f.waits_in x w z.1 k in (turn_later x w.number w.request (f.waiting x w z.1) o.0, locked x o.1)) (put_some waits b (Some (wait_of no q)) x w h);
        sent = λ x i r s k e t. sends x i r s k e t (s.message) s.is s.call s.brick s.body;
        window = windows_later;
        lock = lock_later;
        unhealed = unhealed;
        looking = λ x w h k z. ⊎_elim (λ u. new_looks (ap (λ (y : Wait). gfid_of y.request) (some_is (wait_of no q) w u.1) ∙ k) (ap (λ (y : Wait). is_query y.request) (some_is (wait_of no q) w u.1) ∙ z)) (λ u. still_looks (f.looking x w u.1 k z)) (put_some waits b (Some (wait_of no q)) x w h);
        looked = λ x h. looks x (sym (ap (tried is_query) (windows x)) ∙ h);
        begins = begins;
        over = over;
      }
        where
          newly : (x : ℕ) (w : Wait) → x ≡ b → wait_of no q ≡ w → IsSaid said' a x w.number w.request
          newly x w e h = subst (λ (y : ℕ). IsSaid said' a y w.number w.request) (sym e) (subst (λ (y : Wait). IsSaid said' a b y.number y.request) h mine)

          newly_in : (x : ℕ) (w : Wait) → x ≡ b → wait_of no q ≡ w → gfid_of w.request ≡ Some g → (turn' a ≡ Some (of' w.number)) × ((d'.place x).inode ≢ None)
          newly_in x w e h k = let o = new (ap (λ (y : Wait). gfid_of y.request) h ∙ k) in (o.0 ∙ ap (λ (y : Wait). Some (of' y.number)) h, subst (λ (y : ℕ). (d'.place y).inode ≢ None) (sym e) o.1)

          old : (x i : ℕ) (r : Request) → IsSaid said a x i r → gfid_of r ≡ Some g → is_release r ≡ false → turn' a ≡ Some (of' i) → (put waits b (Some (wait_of no q)) x ≡ Some (wait_of i r)) ⊎ Has i r (d'.place x).window
          old x i r s k e t = ⊎_elim (λ z. inl (put_there waits b (Some (wait_of no q)) x (λ h. some_none (wait_of i r) (sym z ∙ (ap waits h ∙ idle))) ∙ z)) (λ z. inr (subst (Has i r) (sym (windows x)) z)) (f.sent x i r s k e (turn_before x i r s t))

          sends : (x i : ℕ) (r : Request) → IsSaid said' a x i r → gfid_of r ≡ Some g → is_release r ≡ false → turn' a ≡ Some (of' i) → (y : Message) → said' i ≡ Some y → y.call ≡ a → y.brick ≡ x → y.body ≡ ToBrick r → (put waits b (Some (wait_of no q)) x ≡ Some (wait_of i r)) ⊎ Has i r (d'.place x).window
          sends x i r s k e t y is call brick body = ⊎_elim (λ z. inl (put_here waits b (Some (wait_of no q)) x (same_brick y is brick z.0) ∙ ap (λ (u : Wait). Some u) (same_wait y is body z.0))) (λ z. old x i r (record { message = y; is = z; call = call; brick = brick; body = body }) k e t) (adds.newest i y is)
            where
              same_brick : (y : Message) → said' i ≡ Some y → y.brick ≡ x → i ≡ no → b ≡ x
              same_brick y is brick e = sym mine.brick ∙ (ap (λ (u : Message). u.brick) (mine_is i y is e) ∙ brick)

              same_wait : (y : Message) → said' i ≡ Some y → y.body ≡ ToBrick r → i ≡ no → wait_of no q ≡ wait_of i r
              same_wait y is body e = ap (λ (j : ℕ). wait_of j q) (sym e) ∙ ap (λ (u : Request). wait_of i u) (mine_asks i r y is body e)

      -- a Release: what is waited for stays
      pub releases : is_release q ≡ true → ((x : ℕ) (w : Wait) → waits x ≡ Some w → gfid_of w.request ≡ Some g → (d'.place x).inode ≢ None) → Tracks g said' turn' of' moment' a waits steps d'
      releases release still_locked = record {
        waiting = λ x w h. said_later x w.number w.request (f.waiting x w h);
        waits_in = λ x w h k. let o = f.waits_in x w h k in (turn_later x w.number w.request (f.waiting x w h) o.0, still_locked x w h k);
        sent = λ x i r s k e t. let before = said_before x i r s (λ h. not_release x i r s h e) in ⊎_elim (λ z. inl z) (λ z. inr (subst (Has i r) (sym (windows x)) z)) (f.sent x i r before k e (turn_before x i r before t));
        window = windows_later;
        lock = lock_later;
        unhealed = unhealed;
        looking = λ x w h k z. still_looks (f.looking x w h k z);
        looked = λ x h. looks x (sym (ap (tried is_query) (windows x)) ∙ h);
        begins = begins;
        over = over;
      }
        where
          not_release : (x i : ℕ) (r : Request) → IsSaid said' a x i r → i ≡ no → is_release r ≡ false → ⊥
          not_release x i r s h e = let same = ap is_release (mine_asks i r s.message s.is s.body h) in absurd (let z = sym release ∙ (same ∙ e) in cc)

  -- the call itself begins a turn
  module _ (b : ℕ) (q : Request) (mine : IsSaid said' a b no q) (d' : Dealings) (begun : turn' a ≡ Some (of' no)) where
    newest_asks : (i : ℕ) (r : Request) (y : Message) → said' i ≡ Some y → y.body ≡ ToBrick r → i ≡ no → q ≡ r
    newest_asks i r y is body e = request_is q r (sym mine.body ∙ (ap (λ (z : Message). z.body) (some_is mine.message y (sym mine.is ∙ (ap said' (sym e) ∙ is))) ∙ body))

    pub renews : is_query q ≡ false → is_release q ≡ false → waits b ≡ None → ((x : ℕ) (w : Wait) → waits x ≡ Some w → gfid_of w.request ≡ Some g → ⊥) → ((x : ℕ) → (d'.place x).window ≡ []) → ((x : ℕ) (l : Lock) → (d'.place x).inode ≡ Some l → (l.number ≡ no) × IsLock g said' a x l.number) → (d'.place b).inode ≢ None → ((x : ℕ) → (d'.place x).heal ≡ None) → d'.queried ≡ None → moment' (of' no) ≡ false → ((i : ℕ) (x : Message) → said i ≡ Some x → of' i ≢ of' no) → Tracks g said' turn' of' moment' a (put waits b (Some (wait_of no q))) steps d'
    renews no_query no_release idle quiet empty only locked unhealed unqueried fresh new = record {
      waiting = λ x w h. ⊎_elim (λ k. subst (λ (y : ℕ). IsSaid said' a y w.number w.request) (sym k.0) (subst (λ (y : Wait). IsSaid said' a b y.number y.request) (some_is (wait_of no q) w k.1) mine)) (λ k. said_later x w.number w.request (f.waiting x w k.1)) (put_some waits b (Some (wait_of no q)) x w h);
      waits_in = λ x w h k. ⊎_elim (λ z. (begun ∙ ap (λ (y : Wait). Some (of' y.number)) (some_is (wait_of no q) w z.1), subst (λ (y : ℕ). (d'.place y).inode ≢ None) (sym z.0) locked)) (λ z. absurd (quiet x w z.1 k)) (put_some waits b (Some (wait_of no q)) x w h);
      sent = λ x i r s k e t. ⊎_elim (λ z. inl (put_here waits b (Some (wait_of no q)) x (sym mine.brick ∙ (ap (λ (u : Message). u.brick) (some_is mine.message s.message (sym mine.is ∙ (ap said' (sym z.0) ∙ s.is))) ∙ s.brick)) ∙ ap (λ (u : Wait). Some u) (ap (λ (j : ℕ). wait_of j q) (sym z.0) ∙ ap (λ (u : Request). wait_of i u) (newest_asks i r s.message s.is s.body z.0)))) (λ z. absurd (new i s.message z (some_is (of' i) (of' no) (sym t ∙ begun)))) (adds.newest i s.message s.is);
      window = λ x. subst (All (λ e. IsOfTurn said' turn' of' a x e.number e.request)) (sym (empty x)) tt;
      lock = λ x l h. let o = only x l h in (begun ∙ ap (λ (y : ℕ). Some (of' y)) (sym o.0), o.1);
      unhealed = unhealed;
      looking = λ x w h k z. ⊎_elim (λ u. absurd (let y = sym no_query ∙ (ap (λ (y : Wait). is_query y.request) (some_is (wait_of no q) w u.1) ∙ z) in cc)) (λ u. absurd (quiet x w u.1 k)) (put_some waits b (Some (wait_of no q)) x w h);
      looked = λ x h. absurd (let y = sym h ∙ ap (tried is_query) (empty x) in cc);
      begins = λ h t k. subst (λ (y : ℕ). moment' y ≡ false) (some_is (of' no) t (sym begun ∙ k)) fresh;
      over = λ s h. absurd (some_none s (sym h ∙ unqueried));
    }

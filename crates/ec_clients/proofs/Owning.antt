-- Whose requests are, after each entry.
use Rattle.std.proofs.Common.{◌≡◌, ⊎_elim, ℕ, ◌+◌, Bool, true, false, not, Option, Some, None, List, [], ◌∷◌, ◌++◌, refl, sym, ◌∙◌, ap, subst}
use Rattle.ec_store.specs.Put.{put}
use Rattle.ec_conduct.specs.Table.{Send}
use Rattle.ec_history.specs.Run.{Asker, Net, after, executed, executed_by, heard, heard_by, run, torn_off, torn_by}
use Rattle.ec_wire.specs.Lanes.{is_to_brick}
use Rattle.ec_wire.specs.declared.answer.Answer.{Answer}
use Rattle.ec_wire.specs.declared.entry.Entry.{Entry}
use Rattle.ec_wire.specs.declared.entry.Entry.TheVariants.{Answered, Called, Cut, Died, Executed, GivenUp, Heard, Lost, Replaced, Returned, Sent, Stopped, Torn, Yielded}
use Rattle.ec_wire.specs.declared.message.Body.{Body}
use Rattle.ec_wire.specs.declared.message.Body.TheVariants.{ToBrick, ToClient}
use Rattle.ec_wire.specs.declared.message.Message.{Message}
use Rattle.ec_wire.specs.declared.request.Request.{Request}
use Rattle.ec_clients.specs.Frames.{AreOfBricks, is_of_bricks}
use Rattle.ec_clients.specs.Going.{answer_entries, sent_entries}
use Rattle.ec_clients.specs.Owned.{AreOwned, IsOwned}
use Rattle.ec_clients.proofs.Places.{put_is, some_is}

-- A request that is sent is of a call that was made, and a call that is made is a new one.
abbrev pub Fits : Net → Entry → Type 0
Fits m (Called a j op) = m.asker a ≡ None
Fits m (Sent msg) = (q : Request) → msg.body ≡ ToBrick q → IsOwned m.asker msg.call msg.client
Fits m e = Unit {0}

abbrev pub AllFit : Net → List Entry → Type 0
AllFit m [] = Unit {0}
AllFit m (e ∷ es) = Fits m e × AllFit (after m e) es

executed_owned : (m : Net) (o : Option Message) (v : Option ℕ) (g : Bool) → AreOwned m.said m.asker → AreOwned (executed m o v g).said (executed m o v g).asker
executed_owned m None v g h = h
executed_owned m (Some msg) v g h = by msg.body
  where
    by : (y : Body) → AreOwned (executed_by m msg y v g).said (executed_by m msg y v g).asker
    by (ToBrick q) = h
    by (ToClient re reply) = h

heard_owned : (m : Net) (o : Option Message) → AreOwned m.said m.asker → AreOwned (heard m o).said (heard m o).asker
heard_owned m None h = h
heard_owned m (Some msg) h = by msg.body
  where
    by : (y : Body) → AreOwned (heard_by m msg y).said (heard_by m msg y).asker
    by (ToBrick q) = h
    by (ToClient re reply) = h

torn_owned : (m : Net) (o : Option Message) (n : ℕ) (v : Option ℕ) → AreOwned m.said m.asker → AreOwned (torn_off m o n v).said (torn_off m o n v).asker
torn_owned m None n v h = h
torn_owned m (Some msg) n v h = by msg.body
  where
    by : (y : Body) → AreOwned (torn_by m msg y n v).said (torn_by m msg y n v).asker
    by (ToBrick q) = h
    by (ToClient re reply) = h

called_owned : (said : ℕ → Option Message) (askers : ℕ → Option Asker) (a : ℕ) (asker : Asker) → askers a ≡ None → AreOwned said askers → AreOwned said (put askers a (Some asker))
called_owned said askers a asker new h i x q e b =
    let o = h i x q e b in
    ⊎_elim
    (λ p. absurd (let bad : None ≡ Some o.asker = sym new ∙ (ap askers (sym p.0) ∙ o.made) in cc))
    (λ p. record { asker = o.asker; made = p.1 ∙ o.made; of_client = o.of_client })
    (put_is askers a (Some asker) x.call)

sent_owned : (said : ℕ → Option Message) (askers : ℕ → Option Asker) (msg : Message) → ((q : Request) → msg.body ≡ ToBrick q → IsOwned askers msg.call msg.client) → AreOwned said askers → AreOwned (put said msg.no (Some msg)) askers
sent_owned said askers msg f h i x q e b = ⊎_elim
    (λ p. let same : msg ≡ x = some_is msg x (sym p.1 ∙ e) in subst (λ (z : Message). IsOwned askers z.call z.client) same (f q (ap (λ (z : Message). z.body) same ∙ b)))
    (λ p. h i x q (sym p.1 ∙ e) b)
    (put_is said msg.no (Some msg) i)

owned_one : (m : Net) (e : Entry) → Fits m e → AreOwned m.said m.asker → AreOwned (after m e).said (after m e).asker
owned_one m (Called a j op) f h = called_owned m.said m.asker a (record { client = j; op = op }) f h
owned_one m (Sent msg) f h = sent_owned m.said m.asker msg f h
owned_one m (Executed i v g) f h = executed_owned m (m.said i) v g h
owned_one m (Heard i) f h = heard_owned m (m.said i) h
owned_one m (Lost i) f h = h
owned_one m (GivenUp j b i) f h = h
owned_one m (Stopped b) f h = h
owned_one m (Returned b) f h = h
owned_one m (Cut j b) f h = h
owned_one m (Died j) f h = h
owned_one m (Yielded j) f h = h
owned_one m (Torn i n v) f h = torn_owned m (m.said i) n v h
owned_one m (Answered a answer) f h = h
owned_one m (Replaced b n all) f h = h

-- after entries that fit
pub owned_all : (es : List Entry) (m : Net) → AllFit m es → AreOwned m.said m.asker → AreOwned (run es m).said (run es m).asker
owned_all [] m f h = h
owned_all (e ∷ es) m f h = owned_all es (after m e) f.1 (owned_one m e f.0 h)

brick_fits : (m : Net) (e : Entry) → is_of_bricks e ≡ true → Fits m e
brick_fits m (Called a j op) e = absurd (cc)
brick_fits m (Sent msg) e = λ q b. absurd (let bad : true ≡ false = sym e ∙ ap (λ (y : Body). not (is_to_brick y)) b in cc)
brick_fits m (Executed i v g) e = tt
brick_fits m (Heard i) e = tt
brick_fits m (Lost i) e = tt
brick_fits m (GivenUp j b i) e = tt
brick_fits m (Stopped b) e = tt
brick_fits m (Returned b) e = tt
brick_fits m (Cut j b) e = tt
brick_fits m (Died j) e = tt
brick_fits m (Yielded j) e = tt
brick_fits m (Torn i n v) e = tt
brick_fits m (Answered a answer) e = tt
brick_fits m (Replaced b n all) e = tt

pub bricks_fit : (es : List Entry) (m : Net) → AreOfBricks es → AllFit m es
bricks_fit [] m h = tt
bricks_fit (e ∷ es) m h = (brick_fits m e h.0, bricks_fit es (after m e) h.1)

-- what a call sends and answers
pub sent_fit : (a j i : ℕ) (ss : List Send) (answer : Option Answer) (m : Net) → IsOwned m.asker a j → AllFit m (sent_entries a j i ss ++ answer_entries a answer)
sent_fit a j i [] None m o = tt
sent_fit a j i [] (Some answer) m o = (tt, tt)
sent_fit a j i (s ∷ ss) answer m o = (λ q e. o, sent_fit a j (i + 1) ss answer (after m (Sent (record { no = i; call = a; client = j; brick = s.0; body = ToBrick s.1 }))) o)

-- those who called are the same after a reply is heard
pub heard_asker : (m : Net) (o : Option Message) → (heard m o).asker ≡ m.asker
heard_asker m None = refl
heard_asker m (Some msg) = by msg.body
  where
    by : (y : Body) → (heard_by m msg y).asker ≡ m.asker
    by (ToBrick q) = refl
    by (ToClient re reply) = refl

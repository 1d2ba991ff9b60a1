-- The laws of reads.
use Rattle.std.proofs.Common.{◌≡◌, ◌+◌, ◌<◌, ℕ, Bool, true, false, cond, ◌==◌, ◌&&◌, not, Option, Some, None, List, [], ◌∷◌, refl, sym, ◌∙◌, ap, subst, arith, ⊎_elim}
use Rattle.std.proofs.Common.{length}
use Rattle.std.specs.List.{Contains}
use Rattle.ec_attr.specs.declared.geometry.Geometry.{Geometry}
use Rattle.ec_store.specs.Put.{put}
use Rattle.ec_conduct.specs.Account.{Account, at}
use Rattle.ec_conduct.specs.Data.{Decodes}
use Rattle.ec_conduct.specs.Done.{chunk_read, did, is_pre, since}
use Rattle.ec_conduct.specs.Given.{CachedStripe, Given, quorum}
use Rattle.ec_conduct.specs.Standing.{is_grouped}
use Rattle.ec_field.specs.Code.{IsStripe}
use Rattle.ec_history.specs.Accounts.{Books, Leaving, begins, booked, books, client_of, ends, given_to, hears as hears_books, hears_body, is_at_once, is_write, no_books, own_of, sender, sends, with_own}
use Rattle.ec_history.specs.Run.{Net, after, fresh, is_number, run}
use Rattle.ec_history.specs.Story.{Story, op_of, opening, told}
use Rattle.ec_wire.specs.declared.answer.Answer.{Answer}
use Rattle.ec_wire.specs.declared.entry.Entry.{Entry}
use Rattle.ec_wire.specs.declared.entry.Entry.TheVariants.{Answered, Called, GivenUp, Heard, Sent, Yielded}
use Rattle.ec_wire.specs.declared.message.Body.{Body}
use Rattle.ec_wire.specs.declared.message.Body.TheVariants.{ToBrick, ToClient}
use Rattle.ec_wire.specs.declared.message.Message.{Message}
use Rattle.ec_wire.specs.declared.op.Op.{Op}
use Rattle.ec_conduct.specs.Own.{Hears, Own, Sends}
use Rattle.ec_law_ballots.specs.Begin.{begin}
use Rattle.ec_law_net.specs.Start.{first_heads, is_new}
use Rattle.ec_law_net.specs.Turns.{view}
use Rattle.ec_law_net.proofs.Starting.{starts_linked}
use Rattle.ec_law_pieces.specs.Deed.{AreCodes}
use Rattle.ec_law_pieces.specs.File.{File}
use Rattle.ec_law_quorum.proofs.Begins.{inv_begin}
use Rattle.ec_law_turns.proofs.Allowed.{account_given}
use Rattle.ec_law_turns.proofs.Basics.{put_some, some_is, some_none}
use Rattle.ec_law_turns.proofs.Origins.{unversioned}
use Rattle.ec_law_data.specs.Coding.{by_rows}
use Rattle.ec_law_data.specs.Forms.{Coder, Piece, Shape}
use Rattle.ec_law_data.specs.Laws.{begun, begun_file}
use Rattle.ec_law_data.proofs.Reaching.{reaches_start}
use Rattle.ec_law_reads.specs.Given.{IsGiven}
use Rattle.ec_attr.specs.declared.config.Config.{Config}
use Rattle.ec_brick.specs.State.{State as Brick}
use Rattle.ec_history.specs.Flat.{Tree}
use Rattle.ec_history.specs.Starts.{IsStart}
use Rattle.ec_store.specs.Records.{Records}
use Rattle.ec_law_reads.specs.Laws.{Begins, FileLog, GivenAsRead, HasBytesOf, IsOldAsGiven, IsReader, OldAsGiven, ReadLaws, file_of}
use Rattle.ec_law_reads.specs.Units.{of_units}
use Rattle.ec_law_reads.specs.Rows.{AreRows}
use Rattle.ec_law_reads.specs.Stripes.{HaveSameLowBytes}
use Rattle.ec_law_reads.proofs.Knowing.{ReadsKnown}
use Rattle.ec_law_reads.proofs.Olds.{old_as_read}
use Rattle.ec_law_reads.proofs.Reading.{ReadsEnd, given_as_read, reads_end}
use Rattle.ec_law_reads.proofs.Stripes.{of_chunks}

-- ## No cached stripes

-- where no call leaves stripes to its client, none begins with any
pub record Uncached (b : Books) : Type 0 where
  pub cache : (client : ℕ) → b.cache client ≡ []
  pub given : (a : ℕ) (given : Given) → b.given a ≡ Some given → given.cache ≡ []

module _ (geometry : Geometry) (left : ℕ → Leaving) (empty : (a : ℕ) → (left a).cache ≡ []) where
  same_caches : (b b' : Books) → b'.cache ≡ b.cache → b'.given ≡ b.given → Uncached b → Uncached b'
  same_caches b b' cache given k = record { cache = λ client. ap (λ (f : ℕ → List CachedStripe). f client) cache ∙ k.cache client; given = λ a x e. k.given a x (sym (ap (λ (f : ℕ → Option Given). f a) given) ∙ e) }

  uncached_call : (t : Story) (b : Books) (a client : ℕ) (op : Op) → Uncached b → Uncached (begins geometry t b a client op)
  uncached_call t b a client op k = record {
    cache = k.cache;
    given = λ x given e. ⊎_elim (λ z. ap (λ (y : Given). y.cache) (sym (some_is (given_to geometry t b client op) given z.1)) ∙ by (is_write op)) (λ z. k.given x given z.1) (put_some b.given a (Some (given_to geometry t b client op)) x given e);
  }
    where
      by : (u : Bool) → cond u (b.cache client) [] ≡ []
      by true = k.cache client
      by false = refl

  uncached_own : (b : Books) (o : Option ℕ) (e : Own) → Uncached b → Uncached (own_of b o e)
  uncached_own b None e k = k
  uncached_own b (Some a) e k = record { cache = k.cache; given = k.given }

  uncached_sent : (m : Net) (b : Books) (msg : Message) (z : Body) → Uncached b → Uncached (sends m b msg z)
  uncached_sent m b msg (ToBrick q) k = uncached_own b (sender m b msg q) (Sends msg.brick msg.no q) k
  uncached_sent m b msg (ToClient re reply) k = k

  uncached_heard : (m : Net) (b : Books) (o : Option Message) → Uncached b → Uncached (hears_books m b o)
  uncached_heard m b None k = k
  uncached_heard m b (Some msg) k = by_body msg.body
    where
      by_body : (z : Body) → Uncached (hears_body m b msg z)
      by_body (ToBrick q) = k
      by_body (ToClient re reply) = by (is_number re (m.awaits msg.call msg.brick) && not (m.answered msg.call))
        where
          by : (t : Bool) → Uncached (cond t (with_own b msg.call (Hears msg.brick re reply)) b)
          by true = record { cache = k.cache; given = k.given }
          by false = k

  uncached_ends : (m : Net) (b : Books) (a : ℕ) (answer : Answer) → Uncached b → Uncached (ends m b left a answer)
  uncached_ends m b a answer k = record {
    cache = λ client. by (is_write (op_of m a) && not (is_at_once answer)) client;
    given = k.given;
  }
    where
      by : (t : Bool) (client : ℕ) → cond t (put b.cache (client_of (m.asker a)) (left a).cache) b.cache client ≡ []
      by true client = at (client == client_of (m.asker a))
        where
          at : (t : Bool) → cond t (left a).cache (b.cache client) ≡ []
          at true = empty a
          at false = k.cache client
      by false client = k.cache client

  pub uncached_entry : (m : Net) (t : Story) (b : Books) (e : Entry) → Uncached b → Uncached (booked geometry left m t b e)
  uncached_entry m t b (Called a client op) k = uncached_call t b a client op k
  uncached_entry m t b (Sent msg) k = uncached_sent m b msg msg.body k
  uncached_entry m t b (Heard i) k = uncached_heard m b (m.said i) k
  uncached_entry m t b (GivenUp client brick i) k = record { cache = k.cache; given = k.given }
  uncached_entry m t b (Yielded client) k = record { cache = k.cache; given = k.given }
  uncached_entry m t b (Answered a answer) k = uncached_ends m b a answer k
  uncached_entry m t b e k = k

  uncached : (es : List Entry) (m : Net) (t : Story) (b : Books) → Uncached b → Uncached (books geometry left es m t b)
  uncached [] m t b k = k
  uncached (e ∷ es) m t b k = uncached es (after m e) (told geometry m t e) (booked geometry left m t b e) (uncached_entry m t b e k)

-- ## Reads

-- what is known as a log begins
pub reads_begun : (unit : List (List ℕ) → ℕ → ℕ) (coder : Coder) (config : Config) (records : ℕ → Records) (bricks : ℕ → Brick) (tree : Tree) (next g : ℕ) → IsStart config records bricks tree next → (b : Begins) → b.flat.version ≡ (tree g).version
    → ReadsKnown unit (quorum config.geometry) coder config.geometry g (fresh bricks) (begun config records tree next g) no_books (begun_file (of_units unit (quorum config.geometry) coder) config records g b.flat b.shape b.piece b.value) (λ i. false)
reads_begun unit coder config records bricks tree next g start b version = record {
  beside = record {
    heads = ap (λ (origin : ℕ). begin config.geometry.n origin (first_heads config.geometry.n records g) (is_new config.geometry.n records g) (λ a. a)) version;
    inv = inv_begin config.geometry.n (quorum config.geometry) most (omega arith) (tree g).version (first_heads config.geometry.n records g) (is_new config.geometry.n records g) (λ a. a) (starts_linked config records bricks tree next g (λ a. a) positive start).standing;
    planned = λ i x q e body w. absurd (some_none x (sym e));
    named = λ i x q e body w. absurd (some_none x (sym e));
  };
  sure = λ i x e so. absurd (some_none x (sym e));
  owed = tt;
  sent = λ i x re reply e body. absurd (some_none x (sym e));
  timed = λ a given e. absurd (some_none given (sym e));
  heard = λ a given e. absurd (some_none given (sym e));
}
  where
    most : config.geometry.n < quorum config.geometry + quorum config.geometry
    most = let h = config.geometry.majority in omega (arith, h)

    positive : 0 < quorum config.geometry
    positive = let h = config.geometry.least in omega (arith, h)

module _ {unit : List (List ℕ) → ℕ → ℕ} {coder : Coder} (l : FileLog unit coder) where
  abbrev n : ℕ
  n = l.config.geometry.n

  abbrev k : ℕ
  k = quorum l.config.geometry

  abbrev begun_as : File ℕ (List (List ℕ)) Piece ℕ Shape
  begun_as = begun_file (of_units unit (quorum l.config.geometry) coder) l.config l.records l.g l.begins.flat l.begins.shape l.begins.piece l.begins.value

  most : l.config.geometry.n < quorum l.config.geometry + quorum l.config.geometry
  most = let h = l.config.geometry.majority in omega (arith, h)

  known_begun : ReadsKnown unit (quorum l.config.geometry) coder l.config.geometry l.g (fresh l.bricks) (begun l.config l.records l.tree l.next l.g) no_books begun_as (λ i. false)
  known_begun = reads_begun unit coder l.config l.records l.bricks l.tree l.next l.g l.start l.begins l.version

  known_end : ReadsEnd unit (quorum l.config.geometry) coder l.config.geometry l.g (run l.es (fresh l.bricks)) (view l.g l.es (fresh l.bricks) (begun l.config l.records l.tree l.next l.g)) (books l.config.geometry l.orderly.left l.es (fresh l.bricks) (opening l.tree l.next) no_books) (file_of l)
  known_end = reads_end unit (quorum l.config.geometry) coder l.plans l.config.geometry l.g l.orderly.left l.orderly.none_kept l.next (λ h. (l.tree h).version) (λ h le. unversioned l.config l.records l.bricks l.tree l.next h l.start le)
      l.es (fresh l.bricks) (λ h. begun l.config l.records l.tree l.next h) (opening l.tree l.next) no_books begun_as (λ i. false) l.runs l.plain (λ a given h. (l.orderly.conduct a given h, l.orderly.order a given h))
      (reaches_start l.config l.records l.bricks l.tree l.next (λ a. a) most l.start) known_begun l.pieces

  reader_given : (a t : ℕ) (c : Account) → IsReader l a t c → (x s : ℕ) (chunk : List ℕ) → is_grouped c l.g x ≡ true → did is_pre (at c l.g x).window ≡ true → chunk_read s (since is_pre (at c l.g x).window) ≡ Some chunk → IsGiven (file_of l) t x s chunk
  reader_given a t c reader x s chunk = subst (λ (y : Account). is_grouped y l.g x ≡ true → did is_pre (at y l.g x).window ≡ true → chunk_read s (since is_pre (at y l.g x).window) ≡ Some chunk → IsGiven (file_of l) t x s chunk) (sym reader.account_is)
      (given_as_read unit (quorum l.config.geometry) coder l.config.geometry l.g (run l.es (fresh l.bricks)) (view l.g l.es (fresh l.bricks) (begun l.config l.records l.tree l.next l.g)) (books l.config.geometry l.orderly.left l.es (fresh l.bricks) (opening l.tree l.next) no_books) (file_of l) known_end a reader.given reader.began t reader.turn reader.free x s chunk)

  reader_geometry : (a t : ℕ) (c : Account) → IsReader l a t c → c.given.geometry ≡ l.config.geometry
  reader_geometry a t c reader = ap (λ (y : Account). y.given.geometry) reader.account_is ∙ (ap (λ (y : Given). y.geometry) (account_given reader.given ((books l.config.geometry l.orderly.left l.es (fresh l.bricks) (opening l.tree l.next) no_books).own a)) ∙ (known_end.reached.known.numbers.given_below a reader.given reader.began).1.geometry_is)

  reader_cache : ((x : ℕ) → (l.orderly.left x).cache ≡ []) → (a t : ℕ) (c : Account) → IsReader l a t c → c.given.cache ≡ []
  reader_cache empty a t c reader = ap (λ (y : Account). y.given.cache) reader.account_is ∙ (ap (λ (y : Given). y.cache) (account_given reader.given ((books l.config.geometry l.orderly.left l.es (fresh l.bricks) (opening l.tree l.next) no_books).own a)) ∙ (uncached l.config.geometry l.orderly.left empty l.es (fresh l.bricks) (opening l.tree l.next) no_books (record { cache = λ client. refl; given = λ a given e. absurd (some_none given (sym e)) })).given a reader.given reader.began)

given_law : GivenAsRead
given_law unit coder l a t c reader x s chunk less = reader_given l a t c reader x s chunk

-- ## The stripe as it was

module _ (unit : List (List ℕ) → ℕ → ℕ) (k : ℕ) (rows : ℕ → ℕ → ℕ) (l : FileLog unit (by_rows k rows)) (a t : ℕ) (c : Account) (same : k ≡ quorum l.config.geometry) (are : AreRows l.config.geometry.n k l.config.geometry.algorithm rows) (reader : IsReader l a t c) (s : ℕ) (old v : List (List ℕ)) (codes : AreCodes (of_units unit k (by_rows k rows)).form l.config.geometry.n k (file_of l) t s v) where
  low : Decodes c l.g s (λ p. did is_pre p.window) (since is_pre) old → HaveSameLowBytes k old v
  low = subst (λ (y : Account). Decodes y l.g s (λ p. did is_pre p.window) (since is_pre) old → HaveSameLowBytes k old v) (sym reader.account_is)
      (old_as_read unit k rows l.config.geometry l.g (run l.es (fresh l.bricks)) (view l.g l.es (fresh l.bricks) (begun l.config l.records l.tree l.next l.g)) (books l.config.geometry l.orderly.left l.es (fresh l.bricks) (opening l.tree l.next) no_books) (file_of l) (known_end l) same are a reader.given reader.began t reader.turn reader.free s old v codes)

  as_given : IsStripe k old → HaveSameLowBytes k old v → IsOldAsGiven unit k rows l t s old v
  as_given is h = record { bytes = bytes; low = λ i less. sym (h i less); same = λ also i less. sym (of_chunks k v also i less) ∙ bytes i less }
    where
      bytes : HasBytesOf k old v
      bytes i less = sym (h i less) ∙ of_chunks k old is i less

old_law : OldAsGiven
old_law unit k rows l a t c same are empty reader s head old is v codes = as_given unit k rows l a t c same are reader s old v codes stripe (low unit k rows l a t c same are reader s old v codes decodes)
  where
    stripe : IsStripe k old
    stripe = subst (λ (z : ℕ). IsStripe z old) (ap quorum (reader_geometry l a t c reader) ∙ sym same) is.stripe_is

    decodes : Decodes c l.g s (λ p. did is_pre p.window) (since is_pre) old
    decodes = ⊎_elim (λ d. d) (λ h. absurd (none_there (reader_cache l empty a t c reader) h)) is.known
      where
        none_there : {x : CachedStripe} {xs : List CachedStripe} → xs ≡ [] → Contains xs x → ⊥
        none_there e h = let len : length _ ≡ 0 = ap length e in let less = h.1 in omega (arith, len, less)

pub read_laws : ReadLaws
read_laws = record { given = given_law; old = old_law }

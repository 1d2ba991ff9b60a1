-- What a log without commits leaves of the flat files.
use Rattle.std.proofs.Common.{◌≡◌, ◌∙◌, ℕ, ◌==◌, ◌&&◌, Bool, true, false, cond, refl, sym, ap, arith, Option, Some, None, List, [], ◌∷◌}
use Rattle.std.proofs.lemmas.Bool.Decides.{nat_tests}
use Rattle.ec_conduct.specs.Given.{quorum}
use Rattle.ec_attr.specs.declared.geometry.Geometry.{Geometry}
use Rattle.ec_attr.specs.declared.kind.Kind.{Kind}
use Rattle.ec_store.specs.Put.{put}
use Rattle.ec_store.specs.Records.{head_at}
use Rattle.ec_wire.specs.declared.entry.Entry.{Entry}
use Rattle.ec_wire.specs.declared.entry.Entry.TheVariants.{Called, Sent, Executed, Heard, Lost, GivenUp, Stopped, Returned, Cut, Died, Yielded, Torn, Answered, Replaced}
use Rattle.ec_wire.specs.declared.message.Body.{Body}
use Rattle.ec_wire.specs.declared.message.Body.TheVariants.{ToBrick, ToClient}
use Rattle.ec_wire.specs.declared.message.Message.{Message}
use Rattle.ec_wire.specs.declared.request.Request.{Request}
use Rattle.ec_wire.specs.declared.request.Request.TheVariants.{Ask, Release, Query, PreOp, ReadChunks, WriteChunks, SetLength, PostOp, Clear, NameGet, NamesAfter, NameSet, NamesPut, Make, Made, Unmake, Mark, Unmark, GfidsAfter}
use Rattle.ec_history.specs.Changes.{change}
use Rattle.ec_history.specs.Flat.{Flat, Tree, committed, made, made_from, name_opened, opened}
use Rattle.ec_history.specs.Laws.{NoCommit, SameContent}
use Rattle.ec_history.specs.Run.{Net, after, out_of}
use Rattle.ec_history.specs.Story.{Story, commits, commits_of, commits_with, executes, failed_by, is_commit, is_done, is_unmarked, op_of, opens, outcome, request_of, said_by, story, tears, told, told_executed, told_torn, torn_by, with_flat, with_post}

abbrev Same : Tree → Tree → Type 0
Same s t = (g : ℕ) → SameContent (s g) (t g)

itself : (t : Tree) → Same t t
itself t g = record { version = refl; size = refl; byte = λ p. refl; child = λ n. refl }

chain : (r s t : Tree) → Same r s → Same s t → Same r t
chain r s t a b g = record { version = (a g).version ∙ (b g).version; size = (a g).size ∙ (b g).size; byte = λ p. (a g).byte p ∙ (b g).byte p; child = λ n. (a g).child n ∙ (b g).child n }

-- a change of one flat file that keeps its content keeps that of all
one : (t : Tree) (g : ℕ) (f : Flat → Flat) → ((flat : Flat) → SameContent (f flat) flat) → Same (put t g (f (t g))) t
one t g f keeps h = at (h == g) (λ e. grind (e, arith, nat_tests))
  where
    at : (u : Bool) → (u ≡ true → h ≡ g) → SameContent (cond u (f (t g)) (t h)) (t h)
    at true e = let same : t g ≡ t h = ap t (sym (e refl)) in let k = keeps (t g) in
        record { version = k.version ∙ ap (λ (x : Flat). x.version) same; size = k.size ∙ ap (λ (x : Flat). x.size) same; byte = λ p. k.byte p ∙ ap (λ (x : Flat). x.byte p) same; child = λ n. k.child n ∙ ap (λ (x : Flat). x.child n) same }
    at false e = record { version = refl; size = refl; byte = λ p. refl; child = λ n. refl }

either : (u : Bool) (x y : Story) (t : Tree) → Same x.tree t → Same y.tree t → Same (cond u x y).tree t
either true x y t a b = a
either false x y t a b = b

-- what keeps the content of a flat file

kept_opened : (a : ℕ) (test : ℕ → Bool) (flat : Flat) → SameContent (opened a test flat) flat
kept_opened a test flat = record { version = refl; size = refl; byte = λ p. refl; child = λ n. refl }

kept_name : (n : List ℕ) (flat : Flat) → SameContent (name_opened n flat) flat
kept_name n flat = record { version = refl; size = refl; byte = λ p. refl; child = λ n. refl }

kept_made : (kind : Kind) (flat : Flat) → SameContent (made kind flat) flat
kept_made kind flat = by flat.kind
  where
    by : (o : Option Kind) → SameContent (made_from o kind flat) flat
    by None = record { version = refl; size = refl; byte = λ p. refl; child = λ n. refl }
    by (Some k) = record { version = refl; size = refl; byte = λ p. refl; child = λ n. refl }

-- what entries make of all

opens_same : (m : Net) (t : Story) (msg : Message) (g : ℕ) (test : ℕ → Bool) → Same (opens m t msg g test).tree t.tree
opens_same m t msg g test = either _ (with_flat t g (opened msg.call test)) t t.tree (one t.tree g (opened msg.call test) (kept_opened msg.call test)) (itself t.tree)

failed_same : (m : Net) (t : Story) (msg : Message) (q : Request) (version : Option ℕ) → Same (failed_by m t msg q version).tree t.tree
failed_same m t msg (WriteChunks g n first chunks) (Some version) = opens_same m t msg g.0 _
failed_same m t msg (WriteChunks g n first chunks) None = itself t.tree
failed_same m t msg (Ask g domain kind) version = itself t.tree
failed_same m t msg (Release g n) version = itself t.tree
failed_same m t msg (Query g n) version = itself t.tree
failed_same m t msg (PreOp g n at dirty) version = itself t.tree
failed_same m t msg (ReadChunks g n first count) version = itself t.tree
failed_same m t msg (SetLength g n keep count) version = itself t.tree
failed_same m t msg (Clear g n at) version = itself t.tree
failed_same m t msg (NameGet g n name) version = itself t.tree
failed_same m t msg (NamesAfter g n after) version = itself t.tree
failed_same m t msg (NamesPut g n after upto list) version = itself t.tree
failed_same m t msg (Made g n child) version = itself t.tree
failed_same m t msg (Unmake g n child) version = itself t.tree
failed_same m t msg (Mark g n heal head) version = itself t.tree
failed_same m t msg (Unmark g n at dirty) version = itself t.tree
failed_same m t msg (GfidsAfter after dirty) version = itself t.tree
failed_same m t msg (PostOp g n at new size attr) version = itself t.tree
failed_same m t msg (NameSet g n name child) version = itself t.tree
failed_same m t msg (Make g n child) version = itself t.tree

torn_same : (m : Net) (t : Story) (msg : Message) (q : Request) (version : Option ℕ) → Same (torn_by m t msg q version).tree t.tree
torn_same m t msg (WriteChunks g n first chunks) (Some version) = either _ (opens m t msg g.0 _) t t.tree (opens_same m t msg g.0 _) (itself t.tree)
torn_same m t msg (WriteChunks g n first chunks) None = itself t.tree
torn_same m t msg (Ask g domain kind) version = itself t.tree
torn_same m t msg (Release g n) version = itself t.tree
torn_same m t msg (Query g n) version = itself t.tree
torn_same m t msg (PreOp g n at dirty) version = itself t.tree
torn_same m t msg (ReadChunks g n first count) version = itself t.tree
torn_same m t msg (SetLength g n keep count) version = itself t.tree
torn_same m t msg (Clear g n at) version = itself t.tree
torn_same m t msg (NameGet g n name) version = itself t.tree
torn_same m t msg (NamesAfter g n after) version = itself t.tree
torn_same m t msg (NamesPut g n after upto list) version = itself t.tree
torn_same m t msg (Made g n child) version = itself t.tree
torn_same m t msg (Unmake g n child) version = itself t.tree
torn_same m t msg (Mark g n heal head) version = itself t.tree
torn_same m t msg (Unmark g n at dirty) version = itself t.tree
torn_same m t msg (GfidsAfter after dirty) version = itself t.tree
torn_same m t msg (PostOp g n at new size attr) version = itself t.tree
torn_same m t msg (NameSet g n name child) version = itself t.tree
torn_same m t msg (Make g n child) version = itself t.tree

post_same : (u v w : Bool) (x y t : Story) → (u && (v && w)) ≡ false → Same y.tree t.tree → Same (cond u (cond v (cond w x y) t) t).tree t.tree
post_same true true true x y t e a = absurd (cc)
post_same true true false x y t e a = a
post_same true false w x y t e a = itself t.tree
post_same false v w x y t e a = itself t.tree

said_same : (t : Story) (a : ℕ) (body : Body) → Same (said_by t a body).tree t.tree
said_same t a (ToClient re reply) = itself t.tree
said_same t a (ToBrick (NameSet g n name None)) = itself t.tree
said_same t a (ToBrick (NameSet g n name (Some child))) = itself t.tree
said_same t a (ToBrick (Ask g domain kind)) = itself t.tree
said_same t a (ToBrick (Release g n)) = itself t.tree
said_same t a (ToBrick (Query g n)) = itself t.tree
said_same t a (ToBrick (PreOp g n at dirty)) = itself t.tree
said_same t a (ToBrick (ReadChunks g n first count)) = itself t.tree
said_same t a (ToBrick (SetLength g n keep count)) = itself t.tree
said_same t a (ToBrick (Clear g n at)) = itself t.tree
said_same t a (ToBrick (NameGet g n name)) = itself t.tree
said_same t a (ToBrick (NamesAfter g n after)) = itself t.tree
said_same t a (ToBrick (NamesPut g n after upto list)) = itself t.tree
said_same t a (ToBrick (Made g n child)) = itself t.tree
said_same t a (ToBrick (Unmake g n child)) = itself t.tree
said_same t a (ToBrick (Mark g n heal head)) = itself t.tree
said_same t a (ToBrick (Unmark g n at dirty)) = itself t.tree
said_same t a (ToBrick (GfidsAfter after dirty)) = itself t.tree
said_same t a (ToBrick (WriteChunks g n first chunks)) = itself t.tree
said_same t a (ToBrick (PostOp g n at version size attr)) = itself t.tree
said_same t a (ToBrick (Make g n child)) = itself t.tree

-- what a request that was done makes of all, but for a PostOp
quiet_same : (u : Bool) (x t : Story) → Same x.tree t.tree → Same (cond u x t).tree t.tree
quiet_same u x t a = either u x t t.tree a (itself t.tree)

outcome_same : (geometry : Geometry) (m : Net) (t : Story) (msg : Message) (q : Request) (version : Option ℕ) → commits_with geometry m t msg (Some q) version false ≡ false → Same (outcome geometry m t msg q version false).tree t.tree
outcome_same geometry m t msg (Ask g domain kind) version e = quiet_same _ t t (itself t.tree)
outcome_same geometry m t msg (Release g n) version e = quiet_same _ t t (itself t.tree)
outcome_same geometry m t msg (Query g n) version e = quiet_same _ t t (itself t.tree)
outcome_same geometry m t msg (PreOp g n at dirty) version e = quiet_same _ t t (itself t.tree)
outcome_same geometry m t msg (ReadChunks g n first count) version e = quiet_same _ t t (itself t.tree)
outcome_same geometry m t msg (SetLength g n keep count) version e = quiet_same _ _ t (opens_same m t msg g.0 _)
outcome_same geometry m t msg (Clear g n at) version e = quiet_same _ t t (itself t.tree)
outcome_same geometry m t msg (NameGet g n name) version e = quiet_same _ t t (itself t.tree)
outcome_same geometry m t msg (NamesAfter g n after) version e = quiet_same _ t t (itself t.tree)
outcome_same geometry m t msg (NamesPut g n after upto list) version e = quiet_same _ t t (itself t.tree)
outcome_same geometry m t msg (Made g n child) version e = quiet_same _ t t (itself t.tree)
outcome_same geometry m t msg (Unmake g n child) version e = quiet_same _ t t (itself t.tree)
outcome_same geometry m t msg (Mark g n heal head) version e = quiet_same _ t t (itself t.tree)
outcome_same geometry m t msg (Unmark g n at dirty) version e = quiet_same _ t t (itself t.tree)
outcome_same geometry m t msg (GfidsAfter after dirty) version e = quiet_same _ t t (itself t.tree)
outcome_same geometry m t msg (WriteChunks g n first chunks) version e = quiet_same _ _ t (opens_same m t msg g.0 _)
outcome_same geometry m t msg (PostOp g n at new size attr) version e = post_same
    (is_done (out_of m msg (PostOp g n at new size attr) version false).says)
    (is_unmarked (head_at (m.brick msg.brick).records g.0))
    (is_commit geometry t msg.call g.0 msg.brick)
    (with_flat (with_post t msg.call g.0 msg.brick) g.0 (λ flat. committed (quorum geometry) msg.call new (change (quorum geometry) (op_of m msg.call) (t.found msg.call) g.0 flat) flat))
    (with_post t msg.call g.0 msg.brick) t e (itself t.tree)
outcome_same geometry m t msg (NameSet g n name child) version e = quiet_same _ _ t (quiet_same _ (with_flat t g.0 (name_opened name)) t (one t.tree g.0 (name_opened name) (kept_name name)))
outcome_same geometry m t msg (Make g n child) version e = quiet_same _ _ t (one t.tree child.gfid.0 (made child.kind) (kept_made child.kind))

executes_same : (geometry : Geometry) (m : Net) (t : Story) (msg : Message) (o : Option Request) (version : Option ℕ) (failed : Bool) → commits_with geometry m t msg o version failed ≡ false → Same (executes geometry m t msg o version failed).tree t.tree
executes_same geometry m t msg None version failed e = itself t.tree
executes_same geometry m t msg (Some q) version true e = failed_same m t msg q version
executes_same geometry m t msg (Some q) version false e = outcome_same geometry m t msg q version e

executed_same : (geometry : Geometry) (m : Net) (t : Story) (o : Option Message) (version : Option ℕ) (failed : Bool) → commits_of geometry m t o version failed ≡ false → Same (told_executed geometry m t o version failed).tree t.tree
executed_same geometry m t None version failed e = itself t.tree
executed_same geometry m t (Some msg) version failed e = executes_same geometry m t msg (request_of msg.body) version failed e

tears_same : (m : Net) (t : Story) (msg : Message) (o : Option Request) (version : Option ℕ) → Same (tears m t msg o version).tree t.tree
tears_same m t msg None version = itself t.tree
tears_same m t msg (Some q) version = torn_same m t msg q version

torn_off_same : (m : Net) (t : Story) (o : Option Message) (version : Option ℕ) → Same (told_torn m t o version).tree t.tree
torn_off_same m t None version = itself t.tree
torn_off_same m t (Some msg) version = tears_same m t msg (request_of msg.body) version

told_same : (geometry : Geometry) (m : Net) (t : Story) (e : Entry) → commits geometry m t e ≡ false → Same (told geometry m t e).tree t.tree
told_same geometry m t (Called call client op) n = either _ _ t t.tree (itself t.tree) (itself t.tree)
told_same geometry m t (Sent msg) n = said_same t msg.call msg.body
told_same geometry m t (Executed i version failed) n = executed_same geometry m t (m.said i) version failed n
told_same geometry m t (Torn i bytes version) n = torn_off_same m t (m.said i) version
told_same geometry m t (Heard i) n = itself t.tree
told_same geometry m t (Lost i) n = itself t.tree
told_same geometry m t (GivenUp client brick i) n = itself t.tree
told_same geometry m t (Stopped b) n = itself t.tree
told_same geometry m t (Returned b) n = itself t.tree
told_same geometry m t (Cut client b) n = itself t.tree
told_same geometry m t (Died client) n = itself t.tree
told_same geometry m t (Yielded client) n = itself t.tree
told_same geometry m t (Answered call answer) n = itself t.tree
told_same geometry m t (Replaced b removed all) n = itself t.tree

pub uncommitted : (geometry : Geometry) (es : List Entry) (m : Net) (t : Story) → NoCommit geometry es m t → Same (story geometry es m t).tree t.tree
uncommitted geometry [] m t n = itself t.tree
uncommitted geometry (e ∷ es) m t n = chain _ (told geometry m t e).tree t.tree (uncommitted geometry es (after m e) (told geometry m t e) n.1) (told_same geometry m t e n.0)

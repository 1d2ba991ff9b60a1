-- What a torn write leaves.
use Rattle.std.proofs.Common.{◌≡◌, inl, inr, ℕ, ◌*◌, ◌≤◌, Bool, true, false, cond, Option, Some, None, List, [], length, take, refl, sym, ◌∙◌, ap, arith}
use Rattle.std.proofs.lemmas.List.{length-take, take-take}
use Rattle.ec_attr.specs.declared.gfid.Gfid.{Gfid}
use Rattle.ec_attr.specs.declared.head.Head.{Head}
use Rattle.ec_store.specs.Records.{Records, head_at, wrote}
use Rattle.ec_attr.specs.declared.kind.Kind.TheVariants.{File}
use Rattle.ec_wire.specs.declared.request.Request.{Request}
use Rattle.ec_wire.specs.declared.request.Request.TheVariants.{WriteChunks}
use Rattle.ec_brick.specs.Index.{IndexIs, dirty_of}
use Rattle.ec_brick.specs.Inner.{FrontIs, FrontOf, IsFront}
use Rattle.ec_brick.specs.Meets.{IsTorn, TearsOff}
use Rattle.ec_brick.specs.Work.{bytes_of}
use Rattle.ec_brick.specs.declared.row.Check.TheVariants.{Content}
use Rattle.ec_brick.proofs.Exits.{made_of}
use Rattle.ec_brick.proofs.Indexed.{dirty_changed}
use Rattle.ec_brick.proofs.Steps.{row_keeps}
use Rattle.ec_brick.specs.Rows.{fence, is_writers, refusal, row_of}
use Rattle.ec_brick.specs.State.{State}
use Rattle.ec_brick.specs.Step.{Before, Failing, Fine, Work, quiet, stopped, torn, torn_off, by_row, fenced, judged, part_work, replies, version_of}
use Rattle.ec_brick.specs.declared.row.Row.{Row}

-- a write that neither fence nor head refuses
let_through : (b : State) (w : Work) (r : Row) (h : Option Head) (writes gone : Bool) → fence b.asks r ≡ None → h ≡ head_at b.records r.subject.0 → writes ≡ is_writers r.need b.asks r.grant r.gfid → gone ≡ b.removed r.subject.0 → refusal r.check r.grant writes gone h ≡ None → by_row b Fine w (Some r) ≡ replies w.done w.own (version_of h)
let_through b w r h writes gone free there by was why = ap (fenced b Fine w r) free ∙ ap (λ x. judged b Fine w (version_of x) (refusal r.check r.grant (is_writers r.need b.asks r.grant r.gfid) (b.removed r.subject.0) x)) (sym there) ∙ ap (judged b Fine w (version_of h)) (ap (λ t. refusal r.check r.grant t (b.removed r.subject.0) h) (sym by) ∙ ap (λ t. refusal r.check r.grant writes t h) (sym was) ∙ why)

-- the store failed in the write
pub front_failed : (Risen : Type 0) (b : State) (r : Row) (first count : ℕ) (bytes : List ℕ) (h : Option Head) (writes gone : Bool) (k : ℕ) (now : Records) → Risen → fence b.asks r ≡ None → h ≡ head_at b.records r.subject.0 → writes ≡ is_writers r.need b.asks r.grant r.gfid → gone ≡ b.removed r.subject.0 → refusal r.check r.grant writes gone h ≡ None → k ≤ count → now ≡ wrote b.records r.subject.0 (512 * first) (take k (take count bytes)) → FrontIs Risen b (Some r) r.subject first bytes count (version_of h) now
front_failed Risen b r first count bytes h writes gone k now rose free there by was why le e =
    let out = let_through b (part_work b r.subject first (take k bytes)) r h writes gone free there by was why in
    inr (rose, inr (k, le, record { same_version = sym (ap (λ o. o.version) out); same_records = e ∙ ap (wrote b.records r.subject.0 (512 * first)) (take-take k count bytes le) ∙ sym (ap (λ o. o.brick.records) out) }))

pub fewer : (k n : ℕ) (items : List ℕ) → k ≤ length (take n items) → k ≤ n
fewer k n items le = let l = length-take n items in omega arith

pub write_row : (g : Gfid) (n first : ℕ) (chunks : List (List ℕ)) (r : Row) → row_of (WriteChunks g n first chunks) ≡ Some r → (r.check ≡ Content File) × (r.subject ≡ g)
write_row g n first chunks r e = (grind arith, grind arith)

-- a front part was written, and the brick stopped
stops_as : (b s : State) (f : Failing) (g : Gfid) (n first count : ℕ) (chunks : List (List ℕ)) (version : Option ℕ) (now : Records) → b.up ≡ true → s ≡ stopped (record b { records = now }) → IsFront b f (row_of (WriteChunks g n first chunks)) g first (take count (bytes_of chunks)) version now → IsTorn b f (WriteChunks g n first chunks) count version s
stops_as b s f g n first count chunks version now up e p =
    let q = WriteChunks g n first chunks in
    let w = part_work b g first (take count (bytes_of chunks)) in
    let out : torn b f q count ≡ torn_off b f q count = ap (λ t. cond t (torn_off b f q count) (quiet b)) up in
    let config : b.config ≡ (by_row b f w (row_of q)).brick.config = row_keeps (λ s. b.config ≡ s.config) b f w (row_of q) refl refl refl in
    record {
      same_version = p.same_version ∙ sym (ap (λ o. o.version) out);
      same_state = e ∙ ap (λ x. made_of x now false [] (λ g. false)) config ∙ ap (λ x. made_of (by_row b f w (row_of q)).brick.config x false [] (λ g. false)) p.same_records ∙ sym (ap (λ o. o.brick) out);
    }

pub tears : (Risen : Type 0) (b s : State) (q : Request) (count : ℕ) (version : Option ℕ) (now : Records) → b.up ≡ true → s ≡ stopped (record b { records = now }) → FrontOf Risen b q count version now → TearsOff Risen b q count version s
tears Risen b s (WriteChunks g n first chunks) count version now up e p = elim p [ inl whole ↦ inl (stops_as b s Fine g n first count chunks version now up e whole) | inr part ↦ inr (part.0, elim part.1 [ inl unread ↦ inl (stops_as b s Before g n first count chunks version now up e unread) | inr front ↦ inr (front.0, front.1, stops_as b s Fine g n first front.0 chunks version now up e front.2) ]) ]
tears Risen b s q count version now up e p = elim p [ ]

front_dirty : (b : State) (f : Failing) (o : Option Row) (g : Gfid) (first : ℕ) (bytes : List ℕ) (version : Option ℕ) (now : Records) (x : ℕ) → IsFront b f o g first bytes version now → dirty_of now x ≡ dirty_of b.records x
front_dirty b f o g first bytes version now x p = ap (λ m. dirty_of m x) p.same_records ∙ row_keeps (λ s. dirty_of s.records x ≡ dirty_of b.records x) b f (part_work b g first bytes) o refl (dirty_changed b.records g.0 x _ (λ r. refl)) (dirty_changed b.records g.0 x _ (λ r. refl))

-- the index stays
pub index_torn : (Risen : Type 0) (b : State) (q : Request) (count : ℕ) (version : Option ℕ) (now : Records) (old new : ℕ → Bool) → FrontOf Risen b q count version now → new ≡ old → IndexIs old b.records → IndexIs new now
index_torn Risen b (WriteChunks g n first chunks) count version now old new p same i x = ap (λ s. s x) same ∙ i x ∙ sym (elim p [ inl whole ↦ front_dirty b Fine _ g first _ version now x whole | inr part ↦ elim part.1 [ inl unread ↦ front_dirty b Before _ g first _ version now x unread | inr front ↦ front_dirty b Fine _ g first _ version now x front.2 ] ])
index_torn Risen b q count version now old new p same i x = elim p [ ]

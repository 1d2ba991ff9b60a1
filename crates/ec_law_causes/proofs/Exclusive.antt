-- The causes of a call exclude one another.
use Rattle.std.proofs.Common.{◌≡◌, ◌⊎◌, inl, inr, ℕ, false, true, sym, ◌∙◌, ap, subst, not, arith, Option, Some, None}
use Rattle.std.proofs.lemmas.Bool.{cases_eq, cases_lt}
use Rattle.ec_attr.specs.declared.head.Head.{Head}
use Rattle.ec_attr.specs.declared.kind.Child.{Child as ChildOf}
use Rattle.ec_attr.specs.declared.kind.Kind.{Kind}
use Rattle.ec_conduct.specs.Given.{Given}
use Rattle.ec_entry.specs.Named.{IsLowest, IsOther, Value, differs, same_value}
use Rattle.ec_wire.specs.declared.answer.Answer.{Answer}
use Rattle.ec_wire.specs.declared.answer.Answer.TheVariants.{Attr, Bytes, Child, Exists, Limit, Names, NoQuorum, Size, Split}
use Rattle.ec_wire.specs.declared.phase.Phase.TheVariants.{Read as ReadPhase}
use Rattle.ec_wire.specs.declared.op.Op.{Op}
use Rattle.ec_wire.specs.declared.op.Op.TheVariants.{Create, GetAttr, Lookup, Mkdir, Read, Readdir, SetAttr, Stat, Truncate, Unlink, Write}
use Rattle.ec_wire.specs.declared.phase.Phase.{Phase}
use Rattle.ec_law_causes.specs.Causes.{CutsTooFar, Else, EndsTooFar, HasNoName, HasNoRecord, IsAttr, IsBytes, IsGone, IsNames, IsOfKind, IsSize, IsSpent, IsSplit, IsSuccess, IsTooLong, LacksFirst, LacksLast, LacksRange, LacksTail, LeadsTo, NamesDir, Opens, PassesLimit, SaysAttr, SaysChild, SaysSize, TailFallsShort, WritesNothing, causes, cut_at, lookup_causes, make_causes, readdir_causes, truncate_causes, unlink_causes, write_causes}
use Rattle.ec_write.specs.Range.{data_of}
use Rattle.std.specs.Prelude.{length}
use Rattle.ec_law_causes.specs.Counted.{FallsShort, LacksPages, Windows, head_in, named_in, number_read}
use Rattle.ec_law_causes.proofs.Naming.{one_value}

-- the same answer, or both are of success
abbrev pub AreOne : Answer → Answer → Type 0
AreOne a b = (a ≡ b) ⊎ (IsSuccess a × IsSuccess b)

abbrev pub TellsOne : (Answer → Type 0) → Type 0
TellsOne cause = (a b : Answer) → cause a → cause b → AreOne a b

else_one : (cause later : Answer → Type 0) → ((a b : Answer) → cause a → cause b → a ≡ b) → TellsOne later → TellsOne (Else cause later)
else_one cause later one rest a b (inl p) (inl q) = inl (one a b p q)
else_one cause later one rest a b (inl p) (inr q) = absurd (q.0 a p)
else_one cause later one rest a b (inr p) (inl q) = absurd (p.0 b q)
else_one cause later one rest a b (inr p) (inr q) = rest a b p.1 q.1

same_head : (given : Given) (w : Windows) (a b : Head) → head_in given w ≡ Some a → head_in given w ≡ Some b → a ≡ b
same_head given w a b e f = let v = sym e ∙ f in cc

short_one : (given : Given) (w : Windows) (phase : Phase) (a b : Answer) → FallsShort given w phase a → FallsShort given w phase b → a ≡ b
short_one given w phase a b p q = p.answer_is ∙ sym q.answer_is

no_record_one : (given : Given) (w : Windows) (a b : Answer) → HasNoRecord given w a → HasNoRecord given w b → a ≡ b
no_record_one given w a b p q = p.1 ∙ sym q.1

kind_one : (kind : Kind) (says : Answer) (given : Given) (w : Windows) (a b : Answer) → IsOfKind kind says given w a → IsOfKind kind says given w b → a ≡ b
kind_one kind says given w a b p q = p.3 ∙ sym q.3

limit_one : (given : Given) (w : Windows) (a b : Answer) → PassesLimit given w a → PassesLimit given w b → a ≡ b
limit_one given w a b p q = p.3 ∙ (ap (λ (h : Head). Limit h.version.content) (same_head given w p.0 q.0 p.1 q.1) ∙ sym q.3)

opens_one : (given : Given) (w : Windows) (later : Answer → Type 0) → TellsOne later → TellsOne (Opens given w later)
opens_one given w later one = else_one (FallsShort given w _) _ (short_one given w _) (else_one (FallsShort given w _) _ (short_one given w _) (else_one (HasNoRecord given w) later (no_record_one given w) one))

size_one : (given : Given) (w : Windows) → TellsOne (SaysSize given w)
size_one given w a b p q = inl (p.2 ∙ (ap (λ (h : Head). Size h.size) (same_head given w p.0 q.0 p.1 q.1) ∙ sym q.2))

attr_says_one : (given : Given) (w : Windows) → TellsOne (SaysAttr given w)
attr_says_one given w a b p q = inl (p.2 ∙ (ap (λ (h : Head). Attr h.attr) (same_head given w p.0 q.0 p.1 q.1) ∙ sym q.2))

success : (a b : Answer) → a ≡ b → IsSuccess b → IsSuccess a
success a b e s = subst IsSuccess (sym e) s

attr_one : TellsOne IsAttr
attr_one a b p q = inr (success a (Attr p.0) p.1 tt, success b (Attr q.0) q.1 tt)

long_one : (len : ℕ) (a b : Answer) → IsTooLong len a → IsTooLong len b → a ≡ b
long_one len a b p q = p.1 ∙ sym q.1

range_one : (op : Op) (given : Given) (w : Windows) (a b : Answer) → LacksRange op given w a → LacksRange op given w b → a ≡ b
range_one op given w a b p q = p.3.answer_is ∙ sym q.3.answer_is

bytes_one : TellsOne IsBytes
bytes_one a b p q = inr (success a (Bytes p.0) p.1 tt, success b (Bytes q.0) q.1 tt)

far_one : (op : Op) (a b : Answer) → EndsTooFar op a → EndsTooFar op b → a ≡ b
far_one op a b p q = p.1 ∙ sym q.1

nothing_one : (op : Op) (given : Given) (w : Windows) (a b : Answer) → WritesNothing op given w a → WritesNothing op given w b → a ≡ b
nothing_one op given w a b p q = p.1.2 ∙ (ap (λ (h : Head). Size h.size) (same_head given w p.1.0 q.1.0 p.1.1 q.1.1) ∙ sym q.1.2)

first_one : (op : Op) (given : Given) (w : Windows) (a b : Answer) → LacksFirst op given w a → LacksFirst op given w b → a ≡ b
first_one op given w a b p q = p.3.answer_is ∙ sym q.3.answer_is

last_one : (op : Op) (given : Given) (w : Windows) (a b : Answer) → LacksLast op given w a → LacksLast op given w b → a ≡ b
last_one op given w a b p q = p.3.answer_is ∙ sym q.3.answer_is

sizes_one : TellsOne IsSize
sizes_one a b p q = inr (success a (Size p.0) p.1 tt, success b (Size q.0) q.1 tt)

write_one : (op : Op) (given : Given) (w : Windows) → TellsOne (write_causes op given w)
write_one op given w =
    else_one (IsTooLong (length (data_of op))) _ (long_one (length (data_of op))) (else_one (EndsTooFar op) _ (far_one op) (opens_one given w _ (else_one (IsOfKind _ _ given w) _ (kind_one _ _ given w) (else_one (WritesNothing op given w) _ (nothing_one op given w) (else_one (PassesLimit given w) _ (limit_one given w)
    (else_one (FallsShort given w _) _ (short_one given w _) (else_one (LacksFirst op given w) _ (first_one op given w) (else_one (LacksLast op given w) _ (last_one op given w) (else_one (FallsShort given w _) _ (short_one given w _) (else_one (FallsShort given w _) _ (short_one given w _) sizes_one))))))))))

cut_one : (op : Op) (a b : Answer) → CutsTooFar op a → CutsTooFar op b → a ≡ b
cut_one op a b p q = p.1 ∙ sym q.1

tail_one : (op : Op) (given : Given) (w : Windows) (a b : Answer) → LacksTail op given w a → LacksTail op given w b → a ≡ b
tail_one op given w a b p q = p.3.answer_is ∙ (ap (λ (h : Head). NoQuorum ReadPhase (number_read given w (cut_at op given h))) (same_head given w p.0 q.0 p.1 q.1) ∙ sym q.3.answer_is)

tail_short_one : (op : Op) (given : Given) (w : Windows) (a b : Answer) → TailFallsShort op given w a → TailFallsShort op given w b → a ≡ b
tail_short_one op given w a b p q = p.3.answer_is ∙ sym q.3.answer_is

truncate_one : (op : Op) (given : Given) (w : Windows) → TellsOne (truncate_causes op given w)
truncate_one op given w =
    else_one (CutsTooFar op) _ (cut_one op) (opens_one given w _ (else_one (IsOfKind _ _ given w) _ (kind_one _ _ given w) (else_one (PassesLimit given w) _ (limit_one given w)
    (else_one (FallsShort given w _) _ (short_one given w _) (else_one (LacksTail op given w) _ (tail_one op given w) (else_one (TailFallsShort op given w) _ (tail_short_one op given w) (else_one (FallsShort given w _) _ (short_one given w _) (else_one (FallsShort given w _) _ (short_one given w _) sizes_one))))))))

-- ## A name

some_one : (a b : Value) → Some a ≡ Some b → a ≡ b
some_one a b e = cc

no_value : (a : Value) → None ≡ Some a → ⊥
no_value a e = cc

lowest_one : (said : ℕ → Option Value) (a b : Value) → IsLowest said a → IsLowest said b → a ≡ b
lowest_one said a b (x, lx, sx, below_x) (y, ly, sy, below_y) = elim (cases_eq x y) [
  | inl e ↦ some_one a b (sym sx ∙ (ap said e ∙ sy))
  | inr d ↦ elim (cases_lt x y) [
    | inl l ↦ absurd (no_value a (sym (below_y x l) ∙ sx))
    | inr l ↦ absurd (no_value b (sym (below_x y (omega (arith, d, l))) ∙ sy))
  ]
]

not_other : (said : ℕ → Option Value) (a b : Value) (x : ℕ) → said x ≡ Some b → same_value a b ≡ false → differs a (said x) ≡ false → ⊥
not_other said a b x s d e = both (sym (ap (differs a) s ∙ ap not d) ∙ e)
  where
    both : true ≡ false → ⊥
    both t = cc

other_one : (said : ℕ → Option Value) (a b c : Value) → IsOther said a b → IsOther said a c → b ≡ c
other_one said a b c (x, lx, sx, dx, below_x) (y, ly, sy, dy, below_y) = elim (cases_eq x y) [
  | inl e ↦ some_one b c (sym sx ∙ (ap said e ∙ sy))
  | inr d ↦ elim (cases_lt x y) [
    | inl l ↦ absurd (not_other said a b x sx dx (below_y x l))
    | inr l ↦ absurd (not_other said a c y sy dy (below_x y (omega (arith, d, l))))
  ]
]

split_one : (given : Given) (w : Windows) (p q : Answer) → IsSplit given w p → IsSplit given w q → p ≡ q
split_one given w p q (few, a, b, lowest, other, is) (few', c, d, lowest', other', is') =
    let first = lowest_one (named_in given w) a c lowest lowest' in
    let second = other_one (named_in given w) c b d (subst (λ (v : Value). IsOther (named_in given w) v b) first other) other' in
    is ∙ (ap (λ (v : Value). Split v b) first ∙ (ap (λ (v : Value). Split c v) second ∙ sym is'))

no_name_one : (given : Given) (w : Windows) (a b : Answer) → HasNoName given w a → HasNoName given w b → a ≡ b
no_name_one given w a b p q = p.1 ∙ sym q.1

some_child : (a b : ChildOf) → Some a ≡ Some b → a ≡ b
some_child a b e = cc

leads_one : (says : ChildOf → Answer) (given : Given) (w : Windows) (a b : Answer) → LeadsTo says given w a → LeadsTo says given w b → a ≡ b
leads_one says given w a b p q = p.2 ∙ (ap says (some_child p.0 q.0 (one_value given w (Some p.0) (Some q.0) p.1 q.1)) ∙ sym q.2)

child_one : (given : Given) (w : Windows) → TellsOne (LeadsTo Child given w)
child_one given w a b p q = inl (leads_one Child given w a b p q)

lookup_one : (given : Given) (w : Windows) → TellsOne (lookup_causes given w)
lookup_one given w = opens_one given w _ (else_one (IsOfKind _ _ given w) _ (kind_one _ _ given w) (else_one (FallsShort given w _) _ (short_one given w _) (else_one (IsSplit given w) _ (split_one given w) (else_one (HasNoName given w) _ (no_name_one given w) (child_one given w)))))

spent_one : (given : Given) (a b : Answer) → IsSpent given a → IsSpent given b → a ≡ b
spent_one given a b p q = p.1 ∙ sym q.1

says_one : (given : Given) → TellsOne (SaysChild given)
says_one given a b p q = inl (p ∙ sym q)

make_one : (given : Given) (w : Windows) → TellsOne (make_causes given w)
make_one given w =
    else_one (IsSpent given) _ (spent_one given) (opens_one given w _ (else_one (IsOfKind _ _ given w) _ (kind_one _ _ given w) (else_one (FallsShort given w _) _ (short_one given w _) (else_one (IsSplit given w) _ (split_one given w) (else_one (LeadsTo Exists given w) _ (leads_one Exists given w)
    (else_one (PassesLimit given w) _ (limit_one given w) (else_one (FallsShort given w _) _ (short_one given w _) (else_one (FallsShort given w _) _ (short_one given w _) (else_one (FallsShort given w _) _ (short_one given w _) (else_one (FallsShort given w _) _ (short_one given w _) (says_one given)))))))))))

dir_one : (given : Given) (w : Windows) (a b : Answer) → NamesDir given w a → NamesDir given w b → a ≡ b
dir_one given w a b p q = p.3 ∙ sym q.3

gone_one : TellsOne IsGone
gone_one a b p q = inl (p ∙ sym q)

unlink_one : (given : Given) (w : Windows) → TellsOne (unlink_causes given w)
unlink_one given w =
    opens_one given w _ (else_one (IsOfKind _ _ given w) _ (kind_one _ _ given w) (else_one (FallsShort given w _) _ (short_one given w _) (else_one (NamesDir given w) _ (dir_one given w) (else_one (HasNoName given w) _ (no_name_one given w)
    (else_one (PassesLimit given w) _ (limit_one given w) (else_one (FallsShort given w _) _ (short_one given w _) (else_one (FallsShort given w _) _ (short_one given w _) (else_one (FallsShort given w _) _ (short_one given w _) gone_one))))))))

pages_one : (given : Given) (w : Windows) (a b : Answer) → LacksPages given w a → LacksPages given w b → a ≡ b
pages_one given w a b p q = short_one given w _ a b p.short q.short

names_one : TellsOne IsNames
names_one a b p q = inr (success a (Names p.0) p.1 tt, success b (Names q.0) q.1 tt)

readdir_one : (given : Given) (w : Windows) → TellsOne (readdir_causes given w)
readdir_one given w = opens_one given w _ (else_one (IsOfKind _ _ given w) _ (kind_one _ _ given w) (else_one (LacksPages given w) _ (pages_one given w) names_one))

pub causes_one : (op : Op) (given : Given) (w : Windows) → TellsOne (causes op given w)
causes_one (Stat g) given w = opens_one given w _ (else_one (IsOfKind _ _ given w) (SaysSize given w) (kind_one _ _ given w) (size_one given w))
causes_one (GetAttr g) given w = opens_one given w _ (attr_says_one given w)
causes_one (SetAttr g attr) given w = opens_one given w _ (else_one (PassesLimit given w) _ (limit_one given w) (else_one (FallsShort given w _) _ (short_one given w _) (else_one (FallsShort given w _) _ (short_one given w _) attr_one)))
causes_one (Read g off len via) given w = else_one (IsTooLong len) _ (long_one len) (opens_one given w _ (else_one (IsOfKind _ _ given w) _ (kind_one _ _ given w) (else_one (LacksRange (Read g off len via) given w) IsBytes (range_one (Read g off len via) given w) bytes_one)))
causes_one (Write g off bytes) given w = write_one (Write g off bytes) given w
causes_one (Truncate g to) given w = truncate_one (Truncate g to) given w
causes_one (Lookup g name) given w = lookup_one given w
causes_one (Create g name) given w = make_one given w
causes_one (Mkdir g name) given w = make_one given w
causes_one (Unlink g name) given w = unlink_one given w
causes_one (Readdir g) given w = readdir_one given w
causes_one op given w = λ a b p q. absurd p

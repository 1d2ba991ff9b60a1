-- Plain answers, by example.
use Rattle.std.proofs.Common.{◌≡◌, inl, ℕ, ◌<◌, true, false, refl, sym, lit≤, arith, Option, Some, None}
use Rattle.ec_attr.specs.declared.kind.Child.{Child as Leaf}
use Rattle.ec_attr.specs.declared.kind.Kind.TheVariants.{Dir}
use Rattle.ec_history.specs.AnswerExamples.{PlainAnswers, scene}
use Rattle.ec_history.specs.Answers.{Leads}
use Rattle.ec_history.specs.Answers.Leads.{Closed, Open}
use Rattle.ec_history.specs.NameExamples.{a, file_three}

differ : false ≡ true → ⊥
differ e = absurd (cc)

different : (x y : ℕ) → x < y → x ≡ y → ⊥
different x y l e = absurd (omega (arith, l, e))

not_none : Some file_three ≡ None → ⊥
not_none e = absurd (cc)

leads_somewhere : Leads scene 2 a None → ⊥
leads_somewhere (Closed closed value) = not_none value
leads_somewhere (Open open_name value) = differ open_name

same_leaf : (c : Leaf) → Some file_three ≡ Some c → c.kind ≡ Dir → ⊥
same_leaf c e k = absurd (cc)

leads_to_no_directory : (c : Leaf) → Leads scene 2 a (Some c) → c.kind ≡ Dir → ⊥
leads_to_no_directory c (Closed closed value) k = same_leaf c value k
leads_to_no_directory c (Open open_name value) k = differ open_name

nothing_listed : (c : Option Leaf) → None ≡ Some c → ⊥
nothing_listed c e = absurd (cc)

pub plain_answers : PlainAnswers
plain_answers = record {
  stat = refl;
  other_size = λ e. different 3072 3073 (lit≤ tt) (sym e);
  write = refl;
  nothing_written = refl;
  long_read = λ r. different 1 2 (lit≤ tt) (sym r.many);
  other_byte = λ r. different 65 66 (lit≤ tt) (sym (r.each 0 65 (lit≤ tt) refl refl));
  exists = Closed refl refl;
  made = λ m. leads_somewhere m.0;
  missing = leads_somewhere;
  split = differ;
  unlisted = λ l. nothing_listed _ (l.closed a refl);
  gone = inl (file_three, Closed refl refl, refl);
  directory = λ d. leads_to_no_directory d.0 d.1 d.2;
}

use Rattle.std.proofs.Common.{◌/◌, ◌++◌, length, take, ap, ◌∙◌}
use Rattle.ec_script.specs.Data.{digits_bytes}
use Rattle.ec_script.proofs.DataLemmas.{written_back, kept_front}
use Rattle.ec_script.proofs.data.push_digits.Goals as goal

pub returns-clause-ok : goal.returns-clause-ok
returns-clause-ok c =
    written_back c.fill_digits.new.bytes c.resize.new.self.items c.resize.new.self.len (c.fill_digits.ensures.length ∙ ap length c.deref_mut.ensures.value) c.resize.new.self.ok.0
    ∙ c.fill_digits.ensures.value
    ∙ ap (λ xs. xs ++ digits_bytes c.args.text.now)
    (ap (take c.len-start.result) (c.deref_mut.ensures.value ∙ c.in_ok-resize.ensures.items) ∙ kept_front c.args.bytes.now.items _ c.len-start.result (length c.args.text.now / 2) (c.len-start.ensures ∙ c.args.bytes.now.ok.0))

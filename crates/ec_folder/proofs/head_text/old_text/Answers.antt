use Rattle.ec_folder.proofs.head_text.old_text.Goals as goal

pub returns : goal.returns
returns c = rw (c.kind_word.ensures, c.as_str.ensures.value, c.in_ok-config.ensures, c.to_bytes.ensures, c.as_str-2.ensures.value, c.in_ok-version.ensures, c.to_bytes-2.ensures, c.as_str-3.ensures.value, c.in_ok-size.ensures, c.size_to_bytes.ensures, c.as_str-4.ensures.value, c.in_ok-dirty.ensures, c.to_bytes-3.ensures) at c.five_lines.ensures

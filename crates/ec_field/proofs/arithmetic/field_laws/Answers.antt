-- Each law from the lemma of its name.
use Rattle.std.proofs.lemmas.Nat.{xor_comm, xor_lt}
use Rattle.std.specs.Int.Bits.{xor_assoc, xor_zero_r, xor_self}
use Rattle.ec_field.specs.Field.{power}
use Rattle.ec_field.proofs.Products.{product_is_byte, product_comm, product_assoc, product_one, product-right}
use Rattle.ec_field.proofs.Powers.{power_is_byte, power_inverts}
use Rattle.ec_field.proofs.arithmetic.field_laws.Goals as goal

pub returns : goal.returns
returns c = record {
  sum_is_byte = xor_lt 8;
  sum_comm = xor_comm;
  sum_assoc = xor_assoc;
  sum_zero = xor_zero_r;
  sum_self = xor_self;
  product_is_byte = product_is_byte;
  product_comm = product_comm;
  product_assoc = product_assoc;
  product_one = product_one;
  distributive = λ a. (product-right a).xor;
  inverse = λ a p h. (power a 254, power_is_byte a 254 h, power_inverts a p h);
}

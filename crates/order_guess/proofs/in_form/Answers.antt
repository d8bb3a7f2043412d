-- `order_guess::in_form` is safe and ends. Assumes nothing.
use Rattle.order_guess.proofs.in_form.Goals as goal

pub names_form-requires : goal.names_form-requires
names_form-requires c = c.requires.0

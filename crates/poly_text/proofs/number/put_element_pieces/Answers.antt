use Rattle.poly_text.specs.Numbers.{components_text}
use Rattle.poly_text.proofs.OnlyOne.{wrote}
use Rattle.poly_text.proofs.number.put_element_pieces.Goals as goal

pub returns : goal.returns
unfolding components_text
returns c = wrote c.put_components.result _ _ c.components_of.result _ c.components_of.ensures c.put_components.ensures

use Rattle.text_reader.proofs.ElementTexts.{element_taken}
use Rattle.text_reader.proofs.element.take_element.Goals as goal

pub returns : goal.returns
returns c = element_taken _ _ _ _ _ _ _ _ c.take_component.ensures c.take_component-2.ensures c.take_component-3.ensures c.take_component-4.ensures c.take_component-5.ensures c.take_component-6.ensures

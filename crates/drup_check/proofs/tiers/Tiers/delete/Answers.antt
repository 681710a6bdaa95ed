use Rattle.drup_check.proofs.tiers.Tiers.delete.Goals as goal

pub returns-in_ok-set_aside-clause-stands : goal.returns-in_ok-set_aside-clause-stands
returns-in_ok-set_aside-clause-stands c = λ cs st. c.in_ok-set_aside.ensures.stands cs (record {
  held = st.held;
  listed = st.listed;
  gone = st.gone;
  in_range = st.in_range;
  bottom = st.bottom;
  complete = st.complete;
})

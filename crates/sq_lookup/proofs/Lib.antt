mod CheckLaws
mod IndexLaws
mod MapLaws
mod OpenLaws
mod RowLaws

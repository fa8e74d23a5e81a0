mod Fitting
mod RowLaws

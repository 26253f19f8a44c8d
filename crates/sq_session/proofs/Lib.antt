mod ServeLaws
mod SessionLaws

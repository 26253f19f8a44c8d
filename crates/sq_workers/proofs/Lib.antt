mod HubLaws
mod ServeLaws
